-- What a crash might have left while a journal is opened, or a round appended.
use Rattle.std.proofs.Common.{◌≡◌, inl, inr, ℕ, true, List, [], ◌∷◌, Option, Some, IfSome, sym, ◌∙◌, subst, arith}
use Rattle.sz_types.specs.Tables.{Declaration}
use Rattle.sz_disk.specs.Crashes.{Images, are_told, MayBe, IsTheImage}
use Rattle.sz_disk.specs.Calls.{AreAmong}
use Rattle.sz_disk.specs.Entries.{IsEmpty, IsEmptyOrHolds, Holds}
use Rattle.sz_disk.specs.Crashing.{Rests, LeavesOnly, WritesNothing}
use Rattle.sz_disk.specs.GateCalls.{Keeps}
use Rattle.sz_disk.proofs.GateForCallers as gates
use Rattle.sz_disk.proofs.GateForCallers.{rests_synced, the_image, leaves_if, leaves_none, synced_still}
use Rattle.sz_journal.specs.Jobs.{job_bytes}
use Rattle.sz_journal.specs.Rounds.{AreRounds}
use Rattle.sz_journal.specs.declared.job.JobBytes.{JobBytes}
use Rattle.sz_journal.specs.Journals.{Spells}
use Rattle.sz_journal.specs.Journal.{KeepsRounds}
use Rattle.sz_journal.specs.Opening.{IsKept}

-- a crash leaves the one image of a disk at rest
at_rest : {bytes : Option (List ℕ)} {may_leave : Images} {held : List ℕ} (image : List ℕ) (P : List ℕ → Type 0)
    → Rests bytes may_leave held → are_told may_leave ≡ true → P held → MayBe may_leave image → P image
at_rest {may_leave = may_leave} {held = held} image P rests is_told has left =
    subst P (sym (the_image may_leave held image is_told rests.only left)) has

-- no call of the disk
pub leaves_still : {D : Type 0} {time : D → ℕ} {left_since : D → ℕ → Images} {old : D} {bytes : Option (List ℕ)}
    {may_leave : Images} {held : List ℕ} {P : List ℕ → Type 0} → AreAmong (left_since old (time old)) may_leave
    → Rests bytes may_leave held → are_told may_leave ≡ true → P held
    → LeavesOnly time left_since old old P
leaves_still {time = time} {left_since = left_since} {old = old} {may_leave = may_leave} {P = P} now rests is_told has =
    leaves_none (λ d. may_leave) time left_since time old P now (λ image left. at_rest image P rests is_told has left)

module _ {D : Type 0} {bytes : D → Option (List ℕ)} {may_leave : D → Images} {time : D → ℕ}
    {left_since : D → ℕ → Images} where
  -- calls that write nothing, one after the other
  pub nothing_both : {old mid new : D} → WritesNothing bytes may_leave time left_since old mid
      → WritesNothing bytes may_leave time left_since mid new → WritesNothing bytes may_leave time left_since old new
  nothing_both {old = old} {mid = mid} {new = new} first second =
      gates.nothing_both bytes may_leave time left_since time old mid new first second

  pub rests_still : {old new : D} {held : List ℕ} → WritesNothing bytes may_leave time left_since old new
      → Rests (bytes old) (may_leave old) held → Rests (bytes new) (may_leave new) held
  rests_still {old = old} {new = new} {held = held} none rests =
      gates.rests_still bytes may_leave time left_since time old new held none rests

  pub leaves_nothing : {old new : D} {held : List ℕ} {P : List ℕ → Type 0}
      → WritesNothing bytes may_leave time left_since old new → Rests (bytes old) (may_leave old) held
      → are_told (may_leave old) ≡ true → P held → LeavesOnly time left_since old new P
  leaves_nothing {old = old} {new = new} {P = P} none rests is_told has =
      leaves_if time left_since old new (MayBe (may_leave old)) P
      (λ image left. at_rest image P rests is_told has left) none.leaves

  -- a disk that was synced, and then read
  pub rests_read : {old mid new : D} {held : List ℕ} → bytes old ≡ Some held
      → WritesNothing bytes may_leave time left_since old mid → IfSome (bytes mid) (IsTheImage (may_leave mid))
      → WritesNothing bytes may_leave time left_since mid new → Rests (bytes new) (may_leave new) held
  rests_read {mid = mid} {new = new} {held = held} read first synced second =
      rests_synced (bytes new) (may_leave new) held (second.same ∙ first.same ∙ read)
      (synced_still (bytes mid) (bytes new) (may_leave mid)
      (may_leave new) second.same second.told_now second.no_more synced)

-- no rounds are rounds of every job
pub no_rounds : (job : JobBytes) (decls : List Declaration) → AreRounds job decls []
no_rounds job decls = record { follow = tt; bounds = omega arith }

-- the job's entry alone
pub spells_none : (job : JobBytes) (decls : List Declaration) (entry image : List ℕ) → entry ≡ job_bytes job
    → Holds (entry ∷ []) image → Spells job decls image []
spells_none job decls entry image is holds = record {
  holds = subst (λ (e : List ℕ). Holds (e ∷ []) image) is holds;
  are = no_rounds job decls;
}

pub keeps_none : (job : JobBytes) (decls : List Declaration) (entry : List ℕ) (bytes : Option (List ℕ))
    (may_leave : Images) → entry ≡ job_bytes job
    → Keeps bytes may_leave (entry ∷ []) → KeepsRounds bytes may_leave job decls []
keeps_none job decls entry bytes may_leave is keeps = record {
  held = keeps.held;
  rests = keeps.rests;
  spells = spells_none job decls entry keeps.held is keeps.holds;
}

-- where there was no entry
pub kept_empty : (job : JobBytes) (decls : List Declaration) (entry held : List ℕ) (before : Images) (image : List ℕ)
    → entry ≡ job_bytes job → IsEmpty held → IsEmptyOrHolds entry image → IsKept job decls before held image
kept_empty job decls entry held before image is none (inl empty) = inr (none, inl empty)
kept_empty job decls entry held before image is none (inr holds) = inr (none, inr (spells_none job decls entry image is holds))

-- What a journal spells once a round was appended, and what a crash during that leaves.
use Rattle.std.proofs.Common.{◌≡◌, inl, inr, ℕ, ◌+◌, List, [], ◌∷◌, ◌++◌, length, Option, sym, ◌∙◌, ap, subst}
use Rattle.std.proofs.lemmas.List.{map-append, same_from_push}
use Rattle.sz_types.specs.Tables.{Declaration}
use Rattle.sz_disk.specs.Crashes.{Images}
use Rattle.sz_disk.specs.Entries.{opened, end_of, Holds, HoldsOneOf}
use Rattle.sz_disk.specs.GateCalls.{Keeps}
use Rattle.sz_disk.specs.Crashing.{LeavesOnly}
use Rattle.sz_disk.proofs.GateForCallers.{end_more, leaves_if}
use Rattle.sz_journal.specs.Jobs.{job_bytes}
use Rattle.sz_journal.specs.Rounds.{round_bytes, AreRounds}
use Rattle.sz_journal.specs.declared.job.JobBytes.{JobBytes}
use Rattle.sz_journal.specs.declared.round.RoundEntry.{RoundEntry}
use Rattle.sz_journal.specs.Journals.{entries_of, Spells}
use Rattle.sz_journal.specs.declared.tail.Tail.{Tail}
use Rattle.sz_journal.specs.Journal.{rounds_of, end_gate, last_gate, IsOf, KeepsRounds, SpellsOneOf}

pub entries_more : (job : JobBytes) (rounds : List RoundEntry) (round : RoundEntry)
    → entries_of job (rounds ++ round ∷ []) ≡ entries_of job rounds ++ round_bytes round ∷ []
entries_more job rounds round =
    ap (λ (l : List (List ℕ)). job_bytes job ∷ l) (map-append round_bytes rounds (round ∷ []))

module _ (job : JobBytes) (rounds : List RoundEntry) (round : RoundEntry) (entry : List ℕ)
    (entry_is : entry ≡ round_bytes round) where
  pub entries_with : entries_of job rounds ++ entry ∷ [] ≡ entries_of job (rounds ++ round ∷ [])
  entries_with = ap (λ (e : List ℕ). entries_of job rounds ++ e ∷ []) entry_is ∙ sym (entries_more job rounds round)

  pub end_with : end_of (entries_of job (rounds ++ round ∷ [])) ≡ end_of (entries_of job rounds) + length (opened entry)
  end_with = sym (ap end_of entries_with) ∙ end_more (entries_of job rounds) entry

  module _ (decls : List Declaration) (are : AreRounds job decls (rounds ++ round ∷ [])) where
    pub spells_more : (image : List ℕ) → Holds (entries_of job rounds ++ entry ∷ []) image
        → Spells job decls image (rounds ++ round ∷ [])
    spells_more image holds = record {
      holds = subst (λ (es : List (List ℕ)). Holds es image) entries_with holds;
      are = are;
    }

    pub keeps_more : (bytes : Option (List ℕ)) (may_leave : Images)
        → Keeps bytes may_leave (entries_of job rounds ++ entry ∷ [])
        → KeepsRounds bytes may_leave job decls (rounds ++ round ∷ [])
    keeps_more bytes may_leave keeps = record {
      held = keeps.held;
      rests = keeps.rests;
      spells = spells_more keeps.held keeps.holds;
    }

    spells_one : (image : List ℕ) → AreRounds job decls rounds → HoldsOneOf (entries_of job rounds) entry image
        → SpellsOneOf job decls rounds round image
    spells_one image before (inl holds) = inl (record { holds = holds; are = before })
    spells_one image before (inr holds) = inr (spells_more image holds)

    pub leaves_one : {D : Type 0} {time : D → ℕ} {left_since : D → ℕ → Images} {old new : D}
        → AreRounds job decls rounds → LeavesOnly time left_since old new (HoldsOneOf (entries_of job rounds) entry)
        → LeavesOnly time left_since old new (SpellsOneOf job decls rounds round)
    leaves_one {time = time} {left_since = left_since} {old = old} {new = new} before leaves =
        leaves_if time left_since old new (HoldsOneOf (entries_of job rounds) entry)
        (SpellsOneOf job decls rounds round) (λ image left. spells_one image before left) leaves

-- a journal of the job that gained a round
module _ (job : JobBytes) (old new : Tail) (round : RoundEntry) (entry : List ℕ)
    (entry_is : entry ≡ round_bytes round) where
  pub is_of_more : IsOf job old → rounds_of new ≡ rounds_of old ++ round ∷ [] → last_gate new ≡ end_gate old
      → end_gate new ≡ end_gate old + length (opened entry) → IsOf job new
  is_of_more is_of rounds last end = record {
    end = end ∙ ap (λ (n : ℕ). n + length (opened entry)) is_of.end
        ∙ sym (end_with job (rounds_of old) round entry entry_is)
        ∙ ap (λ (rs : List RoundEntry). end_of (entries_of job rs)) (sym rounds);
    last = λ before other is.
        let same = (same_from_push (rounds_of old) before round other (sym rounds ∙ is)).0 in
        last ∙ is_of.end ∙ ap (λ (rs : List RoundEntry). end_of (entries_of job rs)) same;
  }

-- a journal of the job without a round
pub is_of_none : (job : JobBytes) (journal : Tail) → rounds_of journal ≡ []
    → end_gate journal ≡ end_of (entries_of job []) → IsOf job journal
is_of_none job journal none end = record {
  end = end ∙ ap (λ (rs : List RoundEntry). end_of (entries_of job rs)) (sym none);
  last = λ before round is. absurd (no_push before round (sym none ∙ is));
}
  where
    no_push : (before : List RoundEntry) (round : RoundEntry) → [] ≡ before ++ round ∷ [] → ⊥
    no_push [] round e = absurd cc
    no_push (first ∷ before) round e = absurd cc

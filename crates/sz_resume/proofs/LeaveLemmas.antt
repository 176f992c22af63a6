-- What a call of a job leaves of its journal, from round to round.
use Rattle.std.proofs.Common.{◌≡◌, inl, inr, ℕ, ◌<◌, true, List, [], ◌∷◌, ◌++◌, length, Option, refl, sym, ap, ◌∙◌, subst, arith, append_assoc, append-nil, length-append}
use Rattle.sz_types.specs.Tables.{Declaration}
use Rattle.sz_attempt.specs.declared.job.Job.{Job}
use Rattle.sz_disk.specs.Crashes.{Images, are_told}
use Rattle.sz_disk.specs.Calls.{AreAmong}
use Rattle.sz_disk.specs.Crashing.{Rests, LeavesOnly}
use Rattle.sz_disk.specs.Entries.{with_length, all_opened, IsEmpty}
use Rattle.sz_disk.proofs.GateForCallers.{the_image, leaves_if, leaves_none, leaves_both}
use Rattle.sz_journal.specs.Jobs.{job_bytes}
use Rattle.sz_journal.specs.declared.job.JobBytes.{JobBytes}
use Rattle.sz_journal.specs.declared.round.RoundEntry.{RoundEntry}
use Rattle.sz_journal.specs.Rounds.{round_bytes, no_progress, last_progress}
use Rattle.sz_journal.specs.Journals.{Spells}
use Rattle.sz_resume.specs.Standing.{Source, Stands}
use Rattle.sz_resume.specs.Stops.{IsLeft, AreSmall, LeavesRounds, SpellsMore}
use Rattle.sz_resume.proofs.NumberLemmas.{progress-append, small-append}

-- a journal that spells a job isn't empty
not_one : (bytes : List ℕ) → 0 < length bytes → IsEmpty (1 ∷ bytes) → ⊥
not_one [] some none = omega (arith, some)
not_one (byte ∷ bytes) some none = none refl

pub not_empty : (name : JobBytes) (decls : List Declaration) (held : List ℕ) (rounds : List RoundEntry) → Spells name decls held rounds
    → IsEmpty held → ⊥
not_empty name decls held rounds spells none =
    let entry = job_bytes name in
    let rest = all_opened (Rattle.std.specs.Prelude.map round_bytes rounds) ++ spells.holds.gate ∷ spells.holds.behind in
    let is : held ≡ (1 ∷ with_length entry) ++ rest =
    spells.holds.is
    ∙ append_assoc (1 ∷ with_length entry) (all_opened (Rattle.std.specs.Prelude.map round_bytes rounds)) (spells.holds.gate ∷ spells.holds.behind) in
    let some : 0 < length (with_length entry ++ rest) =
    omega (
      arith,
      length-append (with_length entry) rest,
      length-append (all_opened (Rattle.std.specs.Prelude.map round_bytes rounds)) (spells.holds.gate ∷ spells.holds.behind),
    ) in
    not_one (with_length entry ++ rest) some (subst IsEmpty is none)

module _ (name : JobBytes) (job : Job) (source : Source) where
  -- what is left of a journal that spells the job, with some of its rounds
  left_more : (held : List ℕ) (before added more : List RoundEntry) (image : List ℕ) → IsLeft name job source held before added image
      → IsLeft name job source held before (added ++ more) image
  left_more held before added more image (inl empty) = inl empty
  left_more held before added more image (inr left) =
      inr (
        left.0,
        record { more = left.1.more ++ more; is = ap (λ rs. rs ++ more) left.1.is ∙ append_assoc left.0 left.1.more more },
        left.2,
      )

  left_later : (held mid : List ℕ) (before added more : List RoundEntry) (image : List ℕ) → (IsEmpty mid → ⊥)
      → IsLeft name job source mid (before ++ added) more image → IsLeft name job source held before (added ++ more) image
  left_later held mid before added more image some (inl empty) = absurd (some empty.0)
  left_later held mid before added more image some (inr left) =
      inr (
        added ++ left.0,
        record { more = left.1.more; is = ap (λ rs. added ++ rs) left.1.is ∙ sym (append_assoc added left.0 left.1.more) },
        subst (Stands name job source image) (append_assoc before added left.0) left.2,
      )

  module _ {D : Type 0} (time : D → ℕ) (left_since : D → ℕ → Images) where
    -- rounds were added, and then others
    pub leaves_rounds : (old mid new : D) (held now : List ℕ) (before added more : List RoundEntry) → (IsEmpty now → ⊥)
        → LeavesRounds time left_since old mid name job source held before added
        → LeavesRounds time left_since mid new name job source now (before ++ added) more
        → LeavesRounds time left_since old new name job source held before (added ++ more)
    leaves_rounds old mid new held now before added more some first second = record {
      found = first.found;
      small = small-append (last_progress before) added more first.small
          (subst (λ p. AreSmall p more) (progress-append no_progress before added) second.small);
      leaves =
          leaves_both time left_since old mid new (IsLeft name job source held before (added ++ more))
          (leaves_if time left_since old mid (IsLeft name job source held before added) (IsLeft name job source held before (added ++ more))
          (left_more held before added more) first.leaves)
          (leaves_if time left_since mid new (IsLeft name job source now (before ++ added) more) (IsLeft name job source held before (added ++ more))
          (λ image. left_later held now before added more image some) second.leaves);
    }

-- the disk isn't called
pub leaves_nothing : {D : Type 0} {time : D → ℕ} {left_since : D → ℕ → Images} {old : D} {bytes : Option (List ℕ)} {may_leave : Images} {name : JobBytes}
    {job : Job} {source : Source} {held : List ℕ} {before : List RoundEntry} → AreAmong (left_since old (time old)) may_leave → Rests bytes may_leave held
    → are_told may_leave ≡ true → Stands name job source held before → LeavesRounds time left_since old old name job source held before []
leaves_nothing {time = time} {left_since = left_since} {old = old} {may_leave = may_leave} {name = name} {job = job} {source = source} {held = held}
    {before = before} now rests told stands = record {
      found = inr stands;
      small = tt;
      leaves = leaves_none (λ d. may_leave) time left_since time old (IsLeft name job source held before []) now
          (λ image left. subst (IsLeft name job source held before []) (sym (the_image may_leave held image told rests.only left)) this);
    }
  where
    this : IsLeft name job source held before [] held
    this = inr ([], record { more = []; is = refl }, subst (Stands name job source held) (sym (append-nil before)) stands)

-- ---- whatever the rounds stand for

module _ {D : Type 0} {time : D → ℕ} {left_since : D → ℕ → Images} where
  -- the disk isn't called
  pub entries_none : {name : JobBytes} {decls : List Declaration} {disk : D} {bytes : Option (List ℕ)} {may_leave : Images} {held : List ℕ}
      {rounds : List RoundEntry} → AreAmong (left_since disk (time disk)) may_leave → Rests bytes may_leave held → are_told may_leave ≡ true
      → Spells name decls held rounds → LeavesOnly time left_since disk disk (SpellsMore name decls rounds)
  entries_none {name = name} {decls = decls} {disk = disk} {may_leave = may_leave} {held = held} {rounds = rounds} now rests told spells =
      leaves_none (λ d. may_leave) time left_since time disk (SpellsMore name decls rounds) now
      (λ image left. (
        [],
        subst (λ (b : List ℕ). Spells name decls b (rounds ++ [])) (sym (the_image may_leave held image told rests.only left))
            (subst (Spells name decls held) (sym (append-nil rounds)) spells),
      ))

  -- rounds were added, and then others
  pub entries_both : (name : JobBytes) (decls : List Declaration) {old mid new : D} (first : List RoundEntry) {rounds : List RoundEntry}
      (added : List RoundEntry) → rounds ≡ first ++ added
      → LeavesOnly time left_since old mid (SpellsMore name decls first) → LeavesOnly time left_since mid new (SpellsMore name decls rounds)
      → LeavesOnly time left_since old new (SpellsMore name decls first)
  entries_both name decls {old = old} {mid = mid} {new = new} first {rounds = rounds} added is before after =
      leaves_both time left_since old mid new (SpellsMore name decls first) before
      (leaves_if time left_since mid new (SpellsMore name decls rounds) (SpellsMore name decls first)
      (λ image s. (added ++ s.0, subst (Spells name decls image) (ap (λ rs. rs ++ s.0) is ∙ append_assoc first added s.0) s.1)) after)

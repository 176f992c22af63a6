-- What stops leave of a journal, one after the other.
use Rattle.std.proofs.Common.{◌≡◌, inl, inr, ℕ, List, [], ◌∷◌, ◌++◌, sym, ap, ◌∙◌, append-nil, append_assoc}
use Rattle.sz_mean.specs.Marked.{all_tables}
use Rattle.sz_flat.specs.Spelling.{IsShort}
use Rattle.sz_attempt.specs.declared.job.Job.{Job}
use Rattle.sz_disk.specs.Entries.{IsEmpty}
use Rattle.sz_journal.specs.declared.job.JobBytes.{JobBytes}
use Rattle.sz_journal.specs.declared.round.RoundEntry.{RoundEntry}
use Rattle.sz_journal.specs.Journals.{Spelled}
use Rattle.sz_journal.specs.Laws.{IsOneStanding}
use Rattle.sz_resume.specs.Standing.{Source, IsFound}
use Rattle.sz_resume.specs.Stops.{AreFirst, IsLeft, EachIsLeft, last_of, StopsLeaveTheJob}
use Rattle.sz_resume.proofs.LeaveLemmas.{not_empty}

module _ (name : JobBytes) (job : Job) (source : Source) where
  -- an empty journal has no rounds
  no_rounds : (held : List ℕ) (before : List RoundEntry) → IsFound name job source held before → IsEmpty held → before ≡ []
  no_rounds held before (inl none) empty = none.1
  no_rounds held before (inr stands) empty = absurd (not_empty name (all_tables job.compiled) held before stands.1.spells empty)

  -- what one stop leaves may be found, with the rounds that were there and others after them
  left_is_found : (held image : List ℕ) (before added : List RoundEntry) → IsFound name job source held before
      → IsLeft name job source held before added image → (more : List RoundEntry) × IsFound name job source image (before ++ more)
  left_is_found held image before added found (inl empty) = ([], inl (empty.1, append-nil before ∙ no_rounds held before found empty.0))
  left_is_found held image before added found (inr left) = (left.0, inr left.2)

  module _ (law : IsOneStanding) where
    -- a journal has one list of rounds
    same_rounds : IsShort name.skip → (held : List ℕ) (first second : List RoundEntry) → IsFound name job source held first
        → IsFound name job source held second → first ≡ second
    same_rounds short held first second (inl none) found = none.1 ∙ sym (no_rounds held second found none.0)
    same_rounds short held first second (inr stands) (inl none) = no_rounds held first (inr stands) none.0 ∙ sym none.1
    same_rounds short held first second (inr stands) (inr others) =
        let e = law name (all_tables job.compiled) held (Spelled first) (Spelled second) short stands.1.spells others.1.spells in cc

    last_is_found : (images : List (List ℕ)) (held : List ℕ) (before : List RoundEntry) → IsFound name job source held before
        → EachIsLeft name job source held images
        → (rounds : List RoundEntry) × IsFound name job source (last_of held images) rounds × (IsShort name.skip → AreFirst before rounds)
    last_is_found [] held before found each = (before, found, λ short. record { more = []; is = sym (append-nil before) })
    last_is_found (image ∷ images) held before found each =
        let there = each.0.0 in
        let next = left_is_found held image there each.0.1 each.0.2 each.0.3 in
        let last = last_is_found images image (there ++ next.0) next.1 each.1 in (
          last.0,
          last.1,
          λ short. (
              let same = same_rounds short held before there found each.0.2 in
              let first = last.2 short in
              record {
                more = next.0 ++ first.more;
                is = first.is ∙ append_assoc there next.0 first.more ∙ ap (λ rs. rs ++ (next.0 ++ first.more)) (sym same);
              }),
        )

pub stops_leave : IsOneStanding → StopsLeaveTheJob
stops_leave law name job source held before images found each = last_is_found name job source law images held before found each

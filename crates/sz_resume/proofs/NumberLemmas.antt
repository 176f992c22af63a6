-- The numbers of rounds, where one more follows.
use Rattle.std.proofs.Common.{◌≡◌, ℕ, ◌*◌, ◌^◌, ◌≤◌, List, [], ◌∷◌, ◌++◌, refl, ap, ◌∙◌, subst, arith}
use Rattle.sz_types.specs.Tables.{Declaration}
use Rattle.sz_journal.specs.declared.job.JobBytes.{JobBytes}
use Rattle.sz_journal.specs.declared.progress.Progress.{Progress}
use Rattle.sz_journal.specs.declared.round.RoundEntry.{RoundEntry}
use Rattle.sz_journal.specs.Rounds.{no_progress, progress_of, progress_after, last_progress, MayFollow, AreRounds}
use Rattle.sz_journal.proofs.FollowLemmas.{next_told}
use Rattle.sz_resume.specs.Stops.{AreSmall}

-- where the job has come after rounds and others after them
pub progress-append : (progress : Progress) (rounds more : List RoundEntry)
    → progress_after progress (rounds ++ more) ≡ progress_after (progress_after progress rounds) more
progress-append progress [] more = refl
progress-append progress (round ∷ rounds) more = progress-append (progress_of round) rounds more

pub small-append : (progress : Progress) (rounds more : List RoundEntry) → AreSmall progress rounds → AreSmall (progress_after progress rounds) more
    → AreSmall progress (rounds ++ more)
small-append progress [] more small later = later
small-append progress (round ∷ rounds) more small later = (small.0, small-append (progress_of round) rounds more small.1 later)

-- a small round after small ones
pub small_more : (first rounds added : List RoundEntry) (round : RoundEntry) → rounds ≡ first ++ added → AreSmall (last_progress first) added
    → AreSmall (last_progress rounds) (round ∷ []) → AreSmall (last_progress first) (added ++ round ∷ [])
small_more first rounds added round is small one =
    small-append (last_progress first) added (round ∷ []) small
    (subst (λ p. AreSmall p (round ∷ [])) (ap last_progress is ∙ progress-append no_progress first added) one)

-- so many ticks for each of so many records are a bound that can be saved
pub product : (records budget : ℕ) → records ≤ 2 ^ 31 → budget ≤ 2 ^ 32 → records * budget ≤ 2 ^ 63
product records budget few low = grind arith

-- one round more may follow
pub are_more : (name : JobBytes) (decls : List Declaration) (rounds : List RoundEntry) (round : RoundEntry) → AreRounds name decls rounds
    → MayFollow name decls (last_progress rounds) round → name.budget ≤ 2 ^ 32 → AreRounds name decls (rounds ++ round ∷ [])
are_more name decls rounds round are next low =
    next_told name decls rounds round are next (product round.records name.budget next.goes_on.records low)

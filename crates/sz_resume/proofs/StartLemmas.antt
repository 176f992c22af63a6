-- A job that is resumed, up to where its rounds end.
use Rattle.std.proofs.Common.{◌≡◌, inl, inr, ℕ, ◌≤◌, Bool, true, List, [], ◌∷◌, ◌++◌, length, drop, Option, Some, None, IfSome}
use Rattle.std.proofs.Common.{refl, sym, ap, ◌∙◌, subst, arith, length-append}
use Rattle.std.specs.Prelude.{Result, Ok, Err}
use Rattle.sz_mean.specs.Marked.{all_tables}
use Rattle.sz_save_format.specs.Saved.{SavedState}
use Rattle.sz_attempt.specs.declared.job.Job.{Job}
use Rattle.sz_journal.specs.declared.job.JobBytes.{JobBytes}
use Rattle.sz_journal.specs.declared.progress.Progress.{Progress}
use Rattle.sz_journal.specs.declared.round.RoundEntry.{RoundEntry}
use Rattle.sz_journal.specs.Rounds.{last_progress}
use Rattle.sz_journal.specs.declared.tail.Tail.{Tail}
use Rattle.sz_journal.specs.Journal.{rounds_of}
use Rattle.sz_stream.specs.declared.done.Done.{Done}
use Rattle.sz_stream.specs.declared.stop.Stop.TheVariants as stops
use Rattle.sz_resume.specs.declared.halt.Halt.{Halt}
use Rattle.sz_resume.specs.declared.halt.Halt.TheVariants as halts
use Rattle.sz_resume.specs.Standing.{Source, Stands, IsFound}
use Rattle.sz_resume.specs.Entries.{done_of}
use Rattle.sz_resume.specs.Runs.{IsJournalOf, Skips, TellsShort}
use Rattle.sz_resume.proofs.LeaveLemmas.{not_empty}
use Rattle.sz_resume.proofs.WayLemmas.{spelled_at}

drop_front : (xs ys : List ℕ) → drop (length xs) (xs ++ ys) ≡ ys
drop_front [] ys = refl
drop_front (x ∷ xs) ys = drop_front xs ys

-- what is left after the bytes that were dropped
pub left_then : (before after : Option (List ℕ)) (bytes : ℕ) (input : List ℕ) → Skips before after bytes true → before ≡ Some input
    → after ≡ Some (drop bytes input)
left_then None after bytes input skips is = absurd (cc)
left_then (Some s) None bytes input skips is = absurd skips.consumed
left_then (Some s) (Some l) bytes input skips is =
    let same : s ≡ input = cc in
    ap (λ b. Some b) (sym (drop_front skips.dropped l) ∙ ap (drop (length skips.dropped)) (sym skips.consumed ∙ same)
    ∙ ap (λ n. drop n input) (skips.enough refl))

pub long_enough : (before after : Option (List ℕ)) (bytes : ℕ) (input : List ℕ) → Skips before after bytes true → before ≡ Some input → bytes ≤ length input
long_enough None after bytes input skips is = absurd (cc)
long_enough (Some s) None bytes input skips is = absurd skips.consumed
long_enough (Some s) (Some l) bytes input skips is =
    let same : s ≡ input = cc in
    let long = ap length (sym same ∙ skips.consumed) in
    let enough = skips.enough refl in omega (arith, long, enough, length-append skips.dropped l)

-- the same where the bytes of rounds were all dropped
module _ {before after : Option (List ℕ)} {done : Done} {all : Bool} {progress : Progress} (rounds : List RoundEntry) {input : List ℕ} (skips : Skips before after done.bytes all)
    (test : all ≡ true) (done_is : done ≡ done_of progress) (progress_is : progress ≡ last_progress rounds) (is : before ≡ Some input) where
  place_is : done.bytes ≡ (last_progress rounds).bytes
  place_is = ap (λ (d : Done). d.bytes) done_is ∙ ap (λ (p : Progress). p.bytes) progress_is

  all_dropped : Skips before after done.bytes true
  all_dropped = subst (Skips before after done.bytes) test skips

  pub after_dropped : after ≡ Some (drop (last_progress rounds).bytes input)
  after_dropped = left_then before after done.bytes input all_dropped is ∙ ap (λ n. Some (drop n input)) place_is

  pub long_input : (last_progress rounds).bytes ≤ length input
  long_input = let long = long_enough before after done.bytes input all_dropped is in omega (arith, long, place_is)

-- the journal that is found has the job's entry
pub found_is : {name : JobBytes} {job : Job} {source : Source} {journal : Tail} {bytes : Option (List ℕ)} {held : List ℕ} → bytes ≡ Some held
    → IsJournalOf name job journal bytes → IsFound name job source held (rounds_of journal) → Stands name job source held (rounds_of journal)
found_is {name = name} {job = job} {journal = journal} {held = held} told j (inl none) =
    absurd (not_empty name (all_tables job.compiled) held (rounds_of journal) (spelled_at told j) none.0)
found_is told j (inr stands) = stands

-- what an answer says of the input's length
pub tells_all : (journal : Tail) (left : Option (List ℕ)) (answer : Result SavedState Halt)
    → ((input : List ℕ) → left ≡ Some input → TellsShort journal input answer) → IfSome left (λ input. TellsShort journal input answer)
tells_all journal None answer tells = tt
tells_all journal (Some input) answer tells = tells input refl

pub tells_long : (journal : Tail) (input : List ℕ) (answer : Result SavedState Halt) → ((gate : ℕ) → answer ≡ Err (halts.Short gate) → ⊥)
    → (last_progress (rounds_of journal)).bytes ≤ length input → TellsShort journal input answer
tells_long journal input (Ok all) none long = long
tells_long journal input (Err (halts.Short gate)) none long = absurd (none gate refl)
tells_long journal input (Err halts.DiskFailed) none long = long
tells_long journal input (Err (halts.Stopped stops.ReadFailed)) none long = tt
tells_long journal input (Err (halts.Stopped stops.NoMemory)) none long = tt
tells_long journal input (Err (halts.Stopped (stops.Fault n f))) none long = long
tells_long journal input (Err (halts.Stopped (stops.Lost n))) none long = long
tells_long journal input (Err (halts.Stopped (stops.Damaged n))) none long = long
tells_long journal input (Err (halts.Stopped (stops.Limit n))) none long = long

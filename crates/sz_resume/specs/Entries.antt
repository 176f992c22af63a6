-- What is done after the rounds of a journal, the entry of a round that was run, and what rounds hold together.
use Rattle.std.specs.Prelude.{◌≡◌, ℕ, ◌*◌, ⊤, List, [], ◌∷◌, ◌++◌}
use Rattle.sz_types.specs.Tables.{Declaration}
use Rattle.sz_mean.specs.Marked.{all_tables}
use Rattle.sz_tabs.specs.Data.{EmitDatum}
use Rattle.sz_save_format.specs.Saved.{SavedState, CanBeSaved}
use Rattle.sz_save.specs.Saving.{state_of_emits}
use Rattle.sz_attempt.specs.declared.job.Job.{Job}
use Rattle.sz_journal.specs.declared.progress.Progress.{Progress}
use Rattle.sz_journal.specs.declared.round.RoundEntry.{RoundEntry}
use Rattle.sz_journal.specs.Rounds.{progress_of, all_bounds}
use Rattle.sz_stream.specs.declared.done.Done.{Done}
use Rattle.sz_stream.specs.declared.intake.Intake.{Intake}
use Rattle.sz_stream.specs.Intakes.{done_with}

-- what of an input is done where a job has come so far
abbrev pub done_of : Progress → Done
done_of progress = record { shards = progress.shards; records = progress.records; bytes = progress.bytes; passed = progress.passed }

-- The entry is that of the round at hand, of whose records so many were passed over, and these are the emits of the others. Its numbers are those of
-- the intake once the round is done. It has what is saved of the emits, and the ticks of the round's records as the bound
pub record IsNext (job : Job) (intake : Intake) (passed : ℕ) (emits : List EmitDatum) (round : RoundEntry) : Type 0 where
  pub done : done_of (progress_of round) ≡ done_with passed intake
  pub saved : round.saved ≡ state_of_emits (intake.closed * job.budget) (all_tables job.compiled) emits
  pub can : CanBeSaved round.saved

-- what is saved of nothing
abbrev pub nothing : List Declaration → SavedState
nothing decls = state_of_emits 0 decls []

-- what the round holds
abbrev pub saved_in : RoundEntry → SavedState
saved_in round = round.saved

-- each round has what is saved of one of these parts, in order, with some bound
abbrev pub AreSavedOf : List Declaration → List RoundEntry → List (List EmitDatum) → Type 0
AreSavedOf decls [] [] = ⊤
AreSavedOf decls (round ∷ rounds) (part ∷ parts) = (round.saved ≡ state_of_emits round.saved.bound decls part) × AreSavedOf decls rounds parts
AreSavedOf decls _ _ = ⊥

-- the emits of all parts, in order
abbrev pub all_parts : List (List EmitDatum) → List EmitDatum
all_parts [] = []
all_parts (part ∷ parts) = part ++ all_parts parts

-- it is what is saved of the emits of all parts that the rounds have, and the bound is that of all rounds together
abbrev pub HoldsRounds : List Declaration → List RoundEntry → SavedState → Type 0
HoldsRounds decls rounds all =
    (parts : List (List EmitDatum)) → AreSavedOf decls rounds parts → all ≡ state_of_emits (all_bounds rounds) decls (all_parts parts)

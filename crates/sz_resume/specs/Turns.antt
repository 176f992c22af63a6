-- What is known between two rounds of a job that is resumed, and what a round changes.
use Rattle.std.specs.Prelude.{◌≡◌, ℕ, ◌+◌, ◌-◌, ◌<◌, ◌≤◌, ⊤, Bool, List, [], ◌∷◌, ◌++◌, length, drop, Option, Result, Ok, Err}
use Rattle.std.specs.Option.{option_map}
use Rattle.sz_types.specs.declared.frame.Frame.{Frame}
use Rattle.sz_types.specs.Tables.{Declaration}
use Rattle.sz_tabs.specs.Data.{EmitDatum}
use Rattle.sz_save_format.specs.Saved.{SavedState}
use Rattle.sz_records.specs.declared.ending.Ending.{Ending}
use Rattle.sz_records.specs.declared.ending.Ending.TheVariants as endings
use Rattle.sz_records.specs.Cutting.{full, IsCut}
use Rattle.sz_records.specs.Shards.{AreShards}
use Rattle.sz_attempt.specs.declared.job.Job.{Job}
use Rattle.sz_attempt.specs.Shards.{ShardData}
use Rattle.sz_workers.specs.Outcomes.{ShardsEnd}
use Rattle.sz_workers.specs.Cuts.{cut_into}
use Rattle.sz_journal.specs.declared.round.RoundEntry.{RoundEntry}
use Rattle.sz_journal.specs.Rounds.{no_progress, last_progress}
use Rattle.sz_stream.specs.declared.done.Done.{Done}
use Rattle.sz_stream.specs.declared.intake.Intake.{Intake}
use Rattle.sz_stream.specs.declared.stop.Stop.TheVariants as stops
use Rattle.sz_stream.specs.InputRuns.{IsRunning, Reaches, StopsShards}
use Rattle.sz_resume.specs.declared.halt.Halt.{Halt}
use Rattle.sz_resume.specs.declared.halt.Halt.TheVariants.{Stopped, Short, DiskFailed}
use Rattle.sz_resume.specs.Standing.{Source, AreRoundsOf}
use Rattle.sz_resume.specs.Stops.{AreSmall}
use Rattle.sz_resume.specs.Entries.{done_of, HoldsRounds}

-- however the input is cut, the rounds are those of its first shards
abbrev pub AllStand : Job → Source → List RoundEntry → Type 0
AllStand job source rounds = (records : List (List ℕ)) (ending : Ending) (sizes : List ℕ)
    → IsCut source.frame full 0 0 source.bytes records ending → AreShards source.most records sizes
    → (left : List ShardData) × AreRoundsOf job source no_progress (cut_into 0 1 records sizes) rounds left

-- all records that were given after what of the input is done are at hand, and the shards at hand are the next ones
pub record IsFresh (done : Done) (job : Job) (frame : Frame) (most : ℕ) (intake : Intake) (emits : List EmitDatum) (read : List ℕ) (over : Bool)
    : Type 0 where
  pub running : IsRunning done job frame most intake emits read over
  pub first : intake.first ≡ done.records + 1
  pub number : intake.round.first_shard ≡ done.shards

-- the same after rounds, where bytes were read from what was left at the start to what is left now
pub record IsAfter (job : Job) (frame : Frame) (most : ℕ) (rounds : List RoundEntry) (intake : Intake) (start left : Option (List ℕ)) : Type 0 where
  pub emits : List EmitDatum
  pub reached : Reaches (done_of (last_progress rounds)) job frame most intake emits start left
  pub first : intake.first ≡ (last_progress rounds).records + 1
  pub number : intake.round.first_shard ≡ (last_progress rounds).shards

-- a round can be run after the others
pub record HasNext (job : Job) (rounds : List RoundEntry) (intake : Intake) : Type 0 where
  pub frame : Frame
  pub most : ℕ
  pub emits : List EmitDatum
  pub read : List ℕ
  pub over : Bool
  pub fresh : IsFresh (done_of (last_progress rounds)) job frame most intake emits read over
  pub some : 0 < length intake.round.shards

-- what is left after so many bytes
abbrev pub rest_from : ℕ → Option (List ℕ) → Option (List ℕ)
rest_from count left = option_map (drop count) left

-- a round was run, and is one of the journal's now
pub record AddsRound (job : Job) (rounds all : List RoundEntry) (old new : Intake) : Type 0 where
  pub round : RoundEntry
  pub is : all ≡ rounds ++ round ∷ []
  pub small : AreSmall (last_progress rounds) (round ∷ [])
  pub further : old.first < new.first
  pub rises : (last_progress rounds).bytes ≤ round.next_byte
  pub goes_on : (frame : Frame) (most : ℕ) (start left : Option (List ℕ)) → IsAfter job frame most rounds old start left
      → IsAfter job frame most all new (rest_from (round.next_byte - (last_progress rounds).bytes) start) left

-- what comes of shards ends a run so
abbrev pub StopsHalt : ShardsEnd → Halt → Type 0
StopsHalt end (Stopped stop) = StopsShards end stop
StopsHalt end (Short gate) = ⊥
StopsHalt end DiskFailed = ⊤

-- the answer is that of records that end so after these rounds
abbrev pub EndsSo : List Declaration → List RoundEntry → Ending → Result SavedState Halt → Type 0
EndsSo decls rounds ending (Ok all) = (ending ≡ endings.Whole) × HoldsRounds decls rounds all
EndsSo decls rounds ending (Err (Stopped stops.NoMemory)) = ⊤
EndsSo decls rounds ending (Err (Stopped (stops.Damaged byte))) = ending ≡ endings.Damaged byte
EndsSo decls rounds ending (Err (Stopped (stops.Limit byte))) = ending ≡ endings.Limit byte
EndsSo decls rounds ending (Err other) = ⊥

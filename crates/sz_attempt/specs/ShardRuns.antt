-- How the records of a shard are run one after the other.
use Rattle.std.specs.Prelude.{◌≡◌, ◌⊎◌, ℕ, suc, ◌+◌, ◌<◌, ◌≤◌, List, [], ◌∷◌, ◌++◌, length, take, ◌&&◌, nat_eq, Option, Some, None, if◌then◌else◌}
use Rattle.sz_tabs.specs.Data.{EmitDatum}
use Rattle.sz_world_rules.specs.World.{Done, Faulted}
use Rattle.sz_mean.specs.Programs.{mean}
use Rattle.sz_words.specs.declared.settings.Kill.{Kill}
use Rattle.sz_machine.specs.declared.ends.Fault.{Fault}
use Rattle.sz_machine.specs.Ends.{seen_fault}
use Rattle.sz_total.specs.Totals.{StandsFor}
use Rattle.sz_total.specs.States.{TotalState, declarations, emit_count, shown}
use Rattle.sz_attempt.specs.declared.job.Job.{Job}
use Rattle.sz_attempt.specs.declared.ends.Skipped.{Skipped}
use Rattle.sz_attempt.specs.Yields.{Yield}
use Rattle.sz_attempt.specs.Attempts.{lesser, least_of}
use Rattle.sz_attempt.specs.Ends.{StandForEmits, seen_faults}

-- the death that is found among these: the least, if there are so many records
abbrev pub IsDeath : List ℕ → ℕ → Option ℕ → Type 0
IsDeath kills count (Some after) = (least_of kills ≡ Some after) × (after ≤ count)
IsDeath kills count None = (after : ℕ) → least_of kills ≡ Some after → count < after

-- the least of an attempt's kills with one kill more, if it is of attempt k of shard s
abbrev pub least_with : ℕ → ℕ → Kill → Option ℕ → Option ℕ
least_with s k kill least =
    if nat_eq kill.shard s && nat_eq kill.number k then Some (lesser kill.after least) else least

-- how many of so many records are run: those before the death, or all
abbrev pub run_of : Option ℕ → ℕ → ℕ
run_of (Some after) count = after
run_of None count = count

-- the new tables stand for each list that the old ones stand for, with these emits after it
pub record GainsAll (old new : TotalState) (emits : List EmitDatum) : Type 0 where
  pub tables : new.tables ≡ old.tables
  pub count : new.count ≡ old.count + length emits
  pub appended : (front : List EmitDatum) → StandsFor declarations emit_count shown old front
      → StandsFor declarations emit_count shown new (front ++ emits)

-- the record with this number was run: its emits were added; or it faults, and is one more that does
abbrev pub RunsRecord : Job → ℕ → List ℕ → TotalState → TotalState → List Skipped → List Skipped → Type 0
RunsRecord job number input old new before after =
    ((emits : List EmitDatum) × (mean job.compiled job.statics job.budget input ≡ Done emits) × GainsAll old new emits
    × (after ≡ before))
    ⊎ ((fault : Fault) × (mean job.compiled job.statics job.budget input ≡ Faulted (seen_fault fault)) × (new ≡ old)
    × (after ≡ before ++ record { record_no = number; fault = fault } ∷ []))

-- the tables are those of the program before any emit
pub record HoldsNothing (job : Job) (total : TotalState) : Type 0 where
  pub holds : StandForEmits job.compiled total []

-- Records were run of which this comes, up to the first that is one too many to be passed over: these fault. Where
-- none is too many, the tables stand for all their emits
pub record RunsRecords (job : Job) (yield : Yield) (total : TotalState) (faults : List Skipped) : Type 0 where
  pub first : seen_faults faults ≡ take (suc job.skip) yield.faults
  pub stand : length faults ≤ job.skip → StandForEmits job.compiled total yield.emits

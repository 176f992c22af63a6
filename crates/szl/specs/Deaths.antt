-- That the outcome of a run is the same whichever attempts die and however often they are made anew, where the same shards are lost.
use Rattle.std.specs.Prelude.{◌≡◌, ℕ, ◌≤◌, List, [], false, Some, Ok}
use Rattle.std.specs.List.{AllByRecursion}
use Rattle.sz_tree.specs.Statements.{Stms}
use Rattle.sz_mean.specs.Marked.{Marked}
use Rattle.sz_mean.specs.Programs.{statics}
use Rattle.sz_world_rules.specs.World.{Done}
use Rattle.sz_world_rules.specs.Slots.{Slot}
use Rattle.sz_protofile.specs.Types.{TypeShape}
use Rattle.sz_protofile_types.specs.Readings.{FileReading, with_types}
use Rattle.sz_words.specs.declared.settings.Kill.{Kill}
use Rattle.sz_words.specs.declared.settings.RunSettings.{RunSettings}
use Rattle.sz_words.specs.declared.settings.Settings.TheVariants.{Run}
use Rattle.sz_attempt.specs.Attempts.{is_lost}
use Rattle.sz_attempt.specs.Shards.{ShardData}
use Rattle.szl.specs.Judgement.{Reading, spells}
use Rattle.szl.specs.Merging.{Merged}
use Rattle.szl.specs.Outcome.{outcome_of_settings}
use Rattle.szl.specs.Records.{Cut}
use Rattle.szl.specs.Savable.{savable}
use Rattle.szl.specs.Shards.{shards_in, job_of}

-- the settings run this program with these statics, where the `.proto` file and the program's text are read so
pub record Runs (s : RunSettings) (file : FileReading) (reading : Reading) (program : Marked) (slots : List Slot) : Type 0 where
  pub types : List TypeShape
  pub statements : Stms
  pub of_file : file ≡ with_types types
  pub of_text : reading ≡ spells statements
  pub is : savable types s.save s.ignore_undefs statements ≡ Ok program
  pub begun : statics program s.budget ≡ Done slots

-- other settings lose the shards of the input that these do, and no others
abbrev pub LoseAlike : (s other : RunSettings) → FileReading → Reading → Cut → Type 0
LoseAlike s other file reading cut =
    (program : Marked) (slots : List Slot) → Runs s file reading program slots
    → AllByRecursion (λ (shard : ShardData). is_lost (job_of program slots other) shard ≡ is_lost (job_of program slots s) shard)
    (shards_in s.shard cut.records)

-- these settings lose no shard of the input
abbrev pub LoseNone : RunSettings → FileReading → Reading → Cut → Type 0
LoseNone s file reading cut =
    (program : Marked) (slots : List Slot) → Runs s file reading program slots
    → AllByRecursion (λ (shard : ShardData). is_lost (job_of program slots s) shard ≡ false) (shards_in s.shard cut.records)

-- a run of which other attempts die, and in which a shard has more of them or fewer, has the outcome of this one, where the same shards are lost
abbrev pub ForgetsTheDeaths : Type 0
ForgetsTheDeaths =
    (s : RunSettings) (attempts : ℕ) (kills : List Kill) (file : FileReading) (reading : Reading) (cut : Cut) (merged : Merged)
    → LoseAlike s (record s { attempts = attempts; kills = kills }) file reading cut
    → outcome_of_settings (Some (Run (record s { attempts = attempts; kills = kills }))) file reading cut merged
    ≡ outcome_of_settings (Some (Run s)) file reading cut merged

-- where no shard is lost, a run has the outcome of the one in which no attempt dies
abbrev pub IsAsIfNoneDied : Type 0
IsAsIfNoneDied =
    (s : RunSettings) (file : FileReading) (reading : Reading) (cut : Cut) (merged : Merged) → 1 ≤ s.attempts → LoseNone s file reading cut
    → outcome_of_settings (Some (Run s)) file reading cut merged
    ≡ outcome_of_settings (Some (Run (record s { kills = [] }))) file reading cut merged

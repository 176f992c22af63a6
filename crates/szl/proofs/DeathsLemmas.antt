-- Of the attempts and of their deaths an outcome reads which shards are lost, and no more.
use Rattle.std.specs.Prelude.{take}
use Rattle.std.proofs.Common.{◌≡◌, ◌≤◌, ◌+◌, ◌-◌, ◌&&◌, ◌∙◌, ℕ, zero, suc, List, [], ◌∷◌, Bool, true, false, Some, Result, Ok, Err}
use Rattle.std.proofs.Common.{length, slice_get, if◌then◌else◌, refl, sym, arith}
use Rattle.std.specs.List.{AllByRecursion}
use Rattle.sz_mean.specs.Marked.{Marked}
use Rattle.sz_mean.specs.Programs.{mean, statics}
use Rattle.sz_protofile_types.specs.Readings.{FileReading, bad_file, with_types}
use Rattle.sz_world_rules.specs.Slots.{Slot}
use Rattle.sz_world_rules.specs.World.{Done, Faulted}
use Rattle.sz_world_rules.specs.World as world
use Rattle.sz_words.specs.declared.settings.Kill.{Kill}
use Rattle.sz_words.specs.declared.settings.RunSettings.{RunSettings}
use Rattle.sz_words.specs.declared.settings.Settings.TheVariants.{Run}
use Rattle.sz_attempt.specs.declared.job.Job.{Job}
use Rattle.sz_attempt.specs.Shards.{ShardData}
use Rattle.sz_attempt.specs.Yields.{Yield, both, yield_of, means}
use Rattle.sz_attempt.specs.Attempts.{gives, fails, dies_at, passes, shard_means, all_die, is_lost}
use Rattle.sz_workers.specs.Outcomes.{lost, then_shards, outcome_from}
use Rattle.sz_refusals.specs.declared.refusal.Refusal.{Refusal}
use Rattle.szl.specs.Judgement.{Reading, refused, spells}
use Rattle.szl.specs.Merging.{Merged}
use Rattle.szl.specs.Outcome.{written, outcome_of_shards, outcome_of_statics, outcome_of_checked_run, outcome_of_settings}
use Rattle.szl.specs.ProtoFiles.{after_file}
use Rattle.szl.specs.Records.{Cut}
use Rattle.szl.specs.Savable.{savable}
use Rattle.szl.specs.Shards.{shards_in, job_of}
use Rattle.szl.specs.Deaths.{LoseAlike, LoseNone}

module _ (job : Job) (attempts : ℕ) (kills : List Kill) where
  -- the same job but for these two
  abbrev dying : Job
  dying = record job { attempts = attempts; kills = kills }

  same_means : (number : ℕ) (records : List (List ℕ)) → means dying number records ≡ means job number records
  same_means number [] = refl
  same_means number (record_bytes ∷ rest) =
      λ i. both (yield_of number (mean job.compiled job.statics job.budget record_bytes)) (same_means (suc number) rest i)

  -- where the same shards are lost, the same comes of them
  same_outcome_from : (passed : ℕ) (shards : List ShardData) → AllByRecursion (λ shard. is_lost dying shard ≡ is_lost job shard) shards
      → outcome_from dying passed shards ≡ outcome_from job passed shards
  same_outcome_from passed [] same = refl
  same_outcome_from passed (shard ∷ shards) same =
      λ i. let yield : Yield = same_means shard.first shard.records i in
      if same.0 i then lost shard.number
      else then_shards yield (slice_get yield.faults (job.skip - passed)) (same_outcome_from (passed + length yield.faults) shards same.1 i)

module _ (s : RunSettings) (attempts : ℕ) (kills : List Kill) (cut : Cut) where
  -- the same settings but for these two
  abbrev others : RunSettings
  others = record s { attempts = attempts; kills = kills }

  -- the same shards are lost with both
  abbrev IsAlike : Marked → List Slot → Type 0
  IsAlike program slots =
      AllByRecursion (λ shard. is_lost (job_of program slots others) shard ≡ is_lost (job_of program slots s) shard) (shards_in s.shard cut.records)

  same_statics : (program : Marked) (o : world.Outcome (List Slot)) → ((slots : List Slot) → o ≡ Done slots → IsAlike program slots)
      → outcome_of_statics program others cut o ≡ outcome_of_statics program s cut o
  same_statics program (Faulted fault) same = refl
  same_statics program (Done slots) same =
      λ i. outcome_of_shards (written program s.save (length cut.records) s.budget) cut.ending
      (same_outcome_from (job_of program slots s) attempts kills 0 (shards_in s.shard cut.records) (same slots refl) i)

  same_checked_run : (judged : Result Marked Refusal)
      → ((program : Marked) (slots : List Slot) → judged ≡ Ok program → statics program s.budget ≡ Done slots → IsAlike program slots)
      → outcome_of_checked_run others cut judged ≡ outcome_of_checked_run s cut judged
  same_checked_run (Ok program) same = same_statics program (statics program s.budget) (λ slots begun. same program slots refl begun)
  same_checked_run (Err r) same = refl

  -- where the same shards are lost, the outcome is that of the settings as they are
  pub same_after_deaths : (file : FileReading) (reading : Reading) (merged : Merged) → LoseAlike s others file reading cut
      → outcome_of_settings (Some (Run others)) file reading cut merged ≡ outcome_of_settings (Some (Run s)) file reading cut merged
  same_after_deaths (bad_file f) reading merged same = refl
  same_after_deaths (with_types types) (refused r) merged same = refl
  same_after_deaths (with_types types) (spells statements) merged same =
      λ i. after_file s.proto (same_checked_run (savable types s.save s.ignore_undefs statements)
      (λ program slots is begun. same program slots
      (record { types = types; statements = statements; of_file = refl; of_text = refl; is = is; begun = begun })) i)

-- ---- no deaths at all

-- what an attempt gives that doesn't die is no death
alive : (few : Bool) (yield : Yield) (skip : ℕ)
    → dies_at (if few then gives yield.emits yield.faults else fails (take (suc skip) yield.faults)) ≡ false
alive true yield skip = refl
alive false yield skip = refl

-- the same job, where no attempt is to die
abbrev unharmed : Job → Job
unharmed job = record job { kills = [] }

-- where no attempt is to die, not all of 1 or more do
none_dies : (job : Job) (shard : ShardData) (attempts : ℕ) → 1 ≤ attempts → all_die (unharmed job) shard attempts ≡ false
none_dies job shard zero some = absurd (omega (arith, some))
none_dies job shard (suc k) some =
    λ i. alive (passes job.skip (shard_means (unharmed job) shard)) (shard_means (unharmed job) shard) job.skip i && all_die (unharmed job) shard k

all_alike : (job : Job) → 1 ≤ job.attempts → (shards : List ShardData) → AllByRecursion (λ shard. is_lost job shard ≡ false) shards
    → AllByRecursion (λ shard. is_lost (unharmed job) shard ≡ is_lost job shard) shards
all_alike job some [] none = none
all_alike job some (shard ∷ shards) none = (none_dies job shard job.attempts some ∙ sym none.0, all_alike job some shards none.1)

-- where no shard is lost, the outcome is that of the run in which no attempt dies
pub as_if_none_died : (s : RunSettings) (file : FileReading) (reading : Reading) (cut : Cut) (merged : Merged) → 1 ≤ s.attempts
    → LoseNone s file reading cut
    → outcome_of_settings (Some (Run s)) file reading cut merged ≡ outcome_of_settings (Some (Run (record s { kills = [] }))) file reading cut merged
as_if_none_died s file reading cut merged some none =
    sym (same_after_deaths s s.attempts [] cut file reading merged
    (λ program slots run. all_alike (job_of program slots s) some (shards_in s.shard cut.records) (none program slots run)))

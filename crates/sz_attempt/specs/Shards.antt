-- Shards among records, and jobs that can be run.
use Rattle.std.specs.Prelude.{ℕ, ◌+◌, ◌-◌, ◌^◌, ◌≤◌, List, length}
use Rattle.std.specs.List.{slice_range}
use Rattle.sz_core.specs.Sound.{IsSound}
use Rattle.sz_world_rules.specs.Typed.{AllFit}
use Rattle.sz_gen_rules.specs.Simulates.{IsBudget, static_types}
use Rattle.sz_attempt.specs.declared.job.Job.{Job}
use Rattle.sz_attempt.specs.declared.job.Shard.{Shard}

-- the program is sound, its statics have their types, and a record may have this budget
pub record IsJob (job : Job) : Type 0 where
  pub sound : IsSound job.compiled.core
  pub statics : AllFit job.statics (static_types job.compiled.core)
  pub budget : IsBudget job.budget

-- the shard lies among these records, and none of its records has a number above 2^31
pub record IsShardIn (records : List (List ℕ)) (shard : Shard) : Type 0 where
  pub order : shard.start ≤ shard.end
  pub within : shard.end ≤ length records
  pub first : 1 ≤ shard.first
  pub few : shard.first + (shard.end - shard.start) ≤ 2 ^ 31 + 1

-- the records of the shard
abbrev pub records_of : List (List ℕ) → Shard → List (List ℕ)
records_of records shard = slice_range records shard.start shard.end

-- a shard as plain data: its number, counted from 0, the number of its first record, counted from 1, and its records
pub record ShardData : Type 0 where
  pub number : ℕ
  pub first : ℕ
  pub records : List (List ℕ)

-- the shard with this number that lies there among the records
abbrev pub shard_at : ℕ → List (List ℕ) → Shard → ShardData
shard_at number records shard = record { number = number; first = shard.first; records = records_of records shard }

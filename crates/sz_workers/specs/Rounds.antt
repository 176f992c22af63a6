-- Rounds, and what contracts see of how they end.
use Rattle.std.specs.Prelude.{◌≡◌, ℕ, suc, ◌+◌, ◌-◌, ◌^◌, ◌≤◌, List, [], ◌∷◌, length, All}
use Rattle.sz_mean.specs.Marked.{Marked}
use Rattle.sz_tabs.specs.Data.{EmitDatum}
use Rattle.sz_machine.specs.Ends.{seen_fault}
use Rattle.sz_attempt.specs.declared.job.Shard.{Shard}
use Rattle.sz_attempt.specs.Shards.{ShardData, shard_at, IsShardIn}
use Rattle.sz_attempt.specs.Ends.{StandForEmits}
use Rattle.sz_workers.specs.declared.round.Round.{Round}
use Rattle.sz_workers.specs.declared.round.RoundEnd.{RoundEnd}
use Rattle.sz_workers.specs.declared.round.RoundEnd.TheVariants as ends
use Rattle.sz_workers.specs.Outcomes.{ShardsEnd, emitted, faulted, lost}

-- shards among these records, numbered from here on
abbrev pub numbered : ℕ → List (List ℕ) → List Shard → List ShardData
numbered number records [] = []
numbered number records (shard ∷ shards) = shard_at number records shard ∷ numbered (suc number) records shards

-- the shards of a round
abbrev pub shards_of : Round → List ShardData
shards_of round = numbered round.first_shard round.records.items round.shards

-- each shard begins, by the place and by the number of its first record, where the one before it ends
abbrev pub AreNext : ℕ → ℕ → List Shard → Type 0
AreNext place first [] = Unit {0}
AreNext place first (shard ∷ shards) =
    (shard.start ≡ place) × (shard.first ≡ first) × AreNext shard.end (first + (shard.end - shard.start)) shards

-- a round has at most 4,096 shards, which lie after each other among its records, and no shard's number is above 2^31
pub record IsRound (round : Round) : Type 0 where
  pub few : length round.shards ≤ 4096
  pub numbers : round.first_shard + length round.shards ≤ 2 ^ 31 + 1
  pub within : All (IsShardIn round.records.items) round.shards
  pub next : (place : ℕ) × (first : ℕ) × AreNext place first round.shards

-- the answer tells what comes of the shards: the tables stand for just the emits, and so many records were passed over
abbrev pub EndsRound : Marked → ShardsEnd → RoundEnd → Type 0
EndsRound program end (ends.Tables total passed) =
    (emits : List EmitDatum) × (end ≡ emitted emits passed) × StandForEmits program total emits
EndsRound program end (ends.Fault number fault) = end ≡ faulted number (seen_fault fault)
EndsRound program end (ends.Lost shard) = end ≡ lost shard

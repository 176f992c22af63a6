-- Records cut into shards.
use Rattle.std.specs.Prelude.{◌≡◌, ℕ, suc, ◌+◌, ◌^◌, ◌≤◌, List, [], ◌∷◌, length, take, drop, All}
use Rattle.sz_records.specs.Shards.{AreShards}
use Rattle.sz_attempt.specs.declared.job.Shard.{Shard}
use Rattle.sz_attempt.specs.Shards.{ShardData, IsShardIn}
use Rattle.sz_workers.specs.Outcomes.{FollowFrom, all_records}
use Rattle.sz_workers.specs.Rounds.{numbered, AreNext}

-- where shards of these sizes lie, of which the first begins at this place with the record of this number
abbrev pub ranges_of : ℕ → ℕ → List ℕ → List Shard
ranges_of place first [] = []
ranges_of place first (size ∷ sizes) =
    record { first = first; start = place; end = place + size } ∷ ranges_of (place + size) (first + size) sizes

-- the shards of these sizes that records are cut into, numbered from here on, of which the first begins with the
-- record of this number
abbrev pub cut_into : ℕ → ℕ → List (List ℕ) → List ℕ → List ShardData
cut_into number first records [] = []
cut_into number first records (size ∷ sizes) =
    record { number = number; first = first; records = take size records } ∷ cut_into (suc number) (first + size)
    (drop size records) sizes

-- the records are cut into these shards, each of which has so many records at most
pub record AreCut (most : ℕ) (records : List (List ℕ)) (shards : List Shard) : Type 0 where
  pub sizes : List ℕ
  pub are : AreShards most records sizes
  pub lie : shards ≡ ranges_of 0 1 sizes

-- The shards that records are cut into lie after each other among them, as those of a round do. Numbered, from any
-- number on, they are the records cut at these sizes; each begins after the one before it, and together they have all
-- the records
pub record MakesRounds (records : List (List ℕ)) (shards : List Shard) (sizes : List ℕ) : Type 0 where
  pub within : All (IsShardIn records) shards
  pub next : AreNext 0 1 shards
  pub are : (number : ℕ) → numbered number records shards ≡ cut_into number 1 records sizes
  pub follow : (number : ℕ) → FollowFrom 1 (cut_into number 1 records sizes)
  pub whole : (number : ℕ) → all_records (cut_into number 1 records sizes) ≡ records

-- records that are cut into shards, and are no more than there can be, make rounds of these shards
abbrev pub CutsMakeRounds : Type 0
CutsMakeRounds = (most : ℕ) (records : List (List ℕ)) (shards : List Shard) → length records ≤ 2 ^ 31
    → (cut : AreCut most records shards) → MakesRounds records shards cut.sizes

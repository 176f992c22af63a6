-- What comes of shards: the emits of all of them, or the first that is lost or has a record too many that faults
-- decides.
use Rattle.std.specs.Prelude.{◌≡◌, ◌⊎◌, ℕ, ◌+◌, ◌-◌, ◌<◌, List, [], ◌∷◌, ◌++◌, length, Option, Some, None, slice_get, if◌then◌else◌}
use Rattle.sz_tabs.specs.Data.{EmitDatum}
use Rattle.sz_world_rules.specs.World.{Fault}
use Rattle.sz_attempt.specs.declared.job.Job.{Job}
use Rattle.sz_attempt.specs.Shards.{ShardData}
use Rattle.sz_attempt.specs.Yields.{Faulting, Yield}
use Rattle.sz_attempt.specs.Attempts.{shard_means, is_lost, IsLost}

-- what comes of shards: all their emits in order, and how many of their records were passed over; or the number of
-- the record that faults where no more may be passed over, with its fault; or that of the shard that is lost
pub data ShardsEnd : Type 0 where
  emitted : (emits : List EmitDatum) (passed : ℕ) → ShardsEnd
  faulted : (number : ℕ) (fault : Fault) → ShardsEnd
  lost : (shard : ℕ) → ShardsEnd

-- emits, and so many records that were passed over, in front of what comes of further shards
abbrev pub after_front : List EmitDatum → ℕ → ShardsEnd → ShardsEnd
after_front front n (emitted emits passed) = emitted (front ++ emits) (n + passed)
after_front front n (faulted number fault) = faulted number fault
after_front front n (lost shard) = lost shard

-- what comes of a shard that isn't lost, by what its records mean and by the record of it that is one too many, if
-- there is one, and of the shards after it
abbrev pub then_shards : Yield → Option Faulting → ShardsEnd → ShardsEnd
then_shards yield None rest = after_front yield.emits (length yield.faults) rest
then_shards yield (Some one) rest = faulted one.number one.fault

-- what comes of shards in order, after so many records that were passed over
abbrev pub outcome_from : Job → ℕ → List ShardData → ShardsEnd
outcome_from job passed [] = emitted [] 0
outcome_from job passed (shard ∷ shards) =
    if is_lost job shard then lost shard.number
    else then_shards (shard_means job shard) (slice_get (shard_means job shard).faults (job.skip - passed))
    (outcome_from job (passed + length (shard_means job shard).faults) shards)

-- what comes of all shards of an input
abbrev pub outcome_of : Job → List ShardData → ShardsEnd
outcome_of job shards = outcome_from job 0 shards

-- what comes of shards in front, and of those after them where none of the first decides
abbrev pub then_outcome : ShardsEnd → (ℕ → ShardsEnd) → ShardsEnd
then_outcome (emitted emits passed) rest = after_front emits passed (rest passed)
then_outcome (faulted number fault) rest = faulted number fault
then_outcome (lost shard) rest = lost shard

-- the records of shards that fault, in order
abbrev pub faults_in : Job → List ShardData → List Faulting
faults_in job [] = []
faults_in job (shard ∷ shards) = (shard_means job shard).faults ++ faults_in job shards

-- After so many records that were passed over the shard decides: it is lost, or with its records more fault than may
-- be passed over
abbrev pub Decides : Job → ℕ → ShardData → Type 0
Decides job passed shard = IsLost job shard ⊎ (job.skip < passed + length (shard_means job shard).faults)

-- none of the shards decides
abbrev pub NoneDecides : Job → ℕ → List ShardData → Type 0
NoneDecides job passed [] = Unit {0}
NoneDecides job passed (shard ∷ shards) =
    ¬ Decides job passed shard × NoneDecides job (passed + length (shard_means job shard).faults) shards

-- no shard in front of this one of the shards decides
pub record IsFirst (job : Job) (passed : ℕ) (shards : List ShardData) (shard : ShardData) : Type 0 where
  pub front : List ShardData
  pub back : List ShardData
  pub there : shards ≡ front ++ shard ∷ back
  pub none : NoneDecides job passed front

-- The first shard that decides is lost; or it isn't, and of the records that fault up to it this is the one too many.
-- Where none decides, all records that fault are passed over
abbrev pub IsOutcome : Job → ℕ → List ShardData → ShardsEnd → Type 0
IsOutcome job passed shards (emitted emits n) = NoneDecides job passed shards × (n ≡ length (faults_in job shards))
IsOutcome job passed shards (faulted number fault) =
    (shard : ShardData) × (first : IsFirst job passed shards shard) × ¬ IsLost job shard
    × (slice_get (faults_in job (first.front ++ shard ∷ [])) (job.skip - passed)
    ≡ Some (record { number = number; fault = fault }))
IsOutcome job passed shards (lost number) =
    (shard : ShardData) × IsFirst job passed shards shard × IsLost job shard × (shard.number ≡ number)

-- what comes of records that are run as one shard that isn't lost, after so many records that were passed over
abbrev pub of_records : ℕ → ℕ → Yield → ShardsEnd
of_records skip passed yield = then_shards yield (slice_get yield.faults (skip - passed)) (emitted [] 0)

-- the shards lie after each other: each begins with the record after those of the one before it, and the first with
-- this number
abbrev pub FollowFrom : ℕ → List ShardData → Type 0
FollowFrom first [] = Unit {0}
FollowFrom first (shard ∷ shards) = (shard.first ≡ first) × FollowFrom (first + length shard.records) shards

-- the records of shards, in order
abbrev pub all_records : List ShardData → List (List ℕ)
all_records [] = []
all_records (shard ∷ shards) = shard.records ++ all_records shards

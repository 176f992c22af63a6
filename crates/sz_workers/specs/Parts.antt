-- What tables stand for that hold the emits of some shards of a round, and which records of these fault.
use Rattle.std.specs.Prelude.{◌≡◌, ◌⊎◌, ℕ, suc, ◌≤◌, false, true, List, [], ◌∷◌, ◌++◌, length, take, Option, Some, None, slice_get, if◌then◌else◌}
use Rattle.sz_tabs.specs.Data.{EmitDatum}
use Rattle.sz_total.specs.States.{TotalState}
use Rattle.sz_book_rules.specs.Plan.{PlanData}
use Rattle.sz_book_rules.specs.History.{IsAmong, AreDistinct}
use Rattle.sz_words.specs.Lists.{is_among}
use Rattle.sz_attempt.specs.declared.job.Job.{Job}
use Rattle.sz_attempt.specs.Shards.{ShardData, IsJob}
use Rattle.sz_attempt.specs.Yields.{Faulting, Yield}
use Rattle.sz_attempt.specs.Attempts.{shard_means, is_lost, end_of, dies_at, HasTooMany}
use Rattle.sz_attempt.specs.Ends.{StandForEmits, seen_faults}
use Rattle.sz_workers.specs.declared.round.Round.{Round}
use Rattle.sz_workers.specs.Rounds.{shards_of, IsRound}
use Rattle.sz_workers.specs.RoundTickets.{tickets_upto}
use Rattle.sz_workers.specs.declared.first_faults.FirstFaults.{FirstFaults}

-- the plan of a round
abbrev pub plan_for : Job → Round → PlanData
plan_for job round = record {
  shards = length round.shards;
  attempts = job.attempts;
  tickets = tickets_upto job.twice round.first_shard (length round.shards);
}

-- what comes of the records of a shard that may be there
abbrev pub yield_in : Job → Option ShardData → Yield
yield_in job (Some shard) = shard_means job shard
yield_in job None = record { emits = []; faults = [] }

module _ (job : Job) (shards : List ShardData) where
  -- the emits of the shard at a place
  abbrev pub emits_at : ℕ → List EmitDatum
  emits_at s = (yield_in job (slice_get shards s)).emits

  -- its records that fault
  abbrev pub faults_at : ℕ → List Faulting
  faults_at s = (yield_in job (slice_get shards s)).faults

  -- the shard at a place is there, it isn't lost, and no more of its records fault than may be passed over
  pub record Counts (s : ℕ) : Type 0 where
    pub shard : ShardData
    pub there : slice_get shards s ≡ Some shard
    pub alive : is_lost job shard ≡ false
    pub few : length (shard_means job shard).faults ≤ job.skip

  -- attempt k of the shard at a place dies
  pub record Dies (s k : ℕ) : Type 0 where
    pub shard : ShardData
    pub there : slice_get shards s ≡ Some shard
    pub dies : dies_at (end_of job shard k) ≡ true

  -- the shard at a place is bad: it isn't lost, and more of its records fault than may be passed over
  pub record Bad (s : ℕ) : Type 0 where
    pub shard : ShardData
    pub there : slice_get shards s ≡ Some shard
    pub alive : is_lost job shard ≡ false
    pub many : HasTooMany job.skip (shard_means job shard)

-- the records that fault of those shards, from a place on, whose places are among these, in the order of the input
abbrev pub faults_from : Job → List ℕ → ℕ → List ShardData → List Faulting
faults_from job ss place [] = []
faults_from job ss place (shard ∷ shards) =
    (if is_among place ss then (shard_means job shard).faults else []) ++ faults_from job ss (suc place) shards

-- what a function gives for each item of a list, one after the other
abbrev pub gathered : {A : Type 0} → (ℕ → List A) → List ℕ → List A
gathered f [] = []
gathered f (s ∷ ss) = f s ++ gathered f ss

-- The records are the first of the round that fault in these shards, one more than may be passed over; with no shard
-- there may be room for none
pub record HasFirst (job : Job) (round : Round) (part : FirstFaults) (ss : List ℕ) : Type 0 where
  pub first : seen_faults part.faults ≡ take (suc job.skip) (faults_from job ss 0 (shards_of round))
  pub most : ((ss ≡ []) × (part.most ≡ 0)) ⊎ (part.most ≡ suc job.skip)

-- The tables stand for the emits of these shards of the round, each once, and the records are the first of theirs
-- that fault. None of the shards is bad or lost
pub record HoldsShards (job : Job) (round : Round) (total : TotalState) (first : FirstFaults)
    (ss : List ℕ) : Type 0 where
  pub job_is : IsJob job
  pub round_is : IsRound round
  pub distinct : AreDistinct ss
  pub counts : (s : ℕ) → IsAmong s ss → Counts job (shards_of round) s
  pub stand : StandForEmits job.compiled total (gathered (emits_at job (shards_of round)) ss)
  pub faults : HasFirst job round first ss

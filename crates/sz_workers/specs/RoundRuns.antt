-- What the functions of a round are given, and what they find.
use Rattle.std.specs.Prelude.{◌≡◌, ℕ, suc, ◌+◌, ◌-◌, ◌<◌, ◌≤◌, true, List, length, take, Option, Some, None, slice_get, slice_index, nat_lt, if◌then◌else◌}
use Rattle.std.specs.Int.{bit_at}
use Rattle.sz_book_rules.specs.Plan.{PlanData, IsPlan}
use Rattle.sz_book_rules.specs.History.{IsAmong}
use Rattle.sz_attempt.specs.declared.job.Job.{Job}
use Rattle.sz_attempt.specs.declared.ends.Skipped.{Skipped}
use Rattle.sz_attempt.specs.Shards.{ShardData, IsJob}
use Rattle.sz_attempt.specs.Attempts.{is_lost}
use Rattle.sz_attempt.specs.Ends.{StandForEmits, seen_faults}
use Rattle.sz_workers.specs.declared.round.Round.{Round}
use Rattle.sz_workers.specs.Outcomes.{faults_in}
use Rattle.sz_workers.specs.Rounds.{shards_of, IsRound}
use Rattle.sz_workers.specs.declared.round_end.Rest.{Rest}
use Rattle.sz_workers.specs.declared.round_end.Rest.TheVariants as rests
use Rattle.sz_workers.specs.Parts.{plan_for, emits_at, faults_at, Counts, Bad, Dies}

-- the job and the round are the named ones, and can be run, with no more records passed over in front than may be;
-- the plan is theirs
pub record IsSet (named : Job) (of : Round) (job : Job) (round : Round) (p : PlanData) : Type 0 where
  pub job_is : job ≡ named
  pub round_is : round ≡ of
  pub job_runs : IsJob named
  pub round_runs : IsRound of
  pub attempts : (1 ≤ named.attempts) × (named.attempts ≤ 8)
  pub passed : of.passed ≤ named.skip
  pub plan : p ≡ plan_for named of
  pub plans : IsPlan p

-- The words of a closed ledger: there is one for each shard of the round, and each death that they tell is one
pub record AreWords (job : Job) (round : Round) (won deaths : List ℕ) : Type 0 where
  pub rows : (length won ≡ length round.shards) × (length deaths ≡ length round.shards)
  pub true_deaths : (s k : ℕ) → bit_at (slice_index deaths s) k ≡ 1 → Dies job (shards_of round) s k

-- all shards in front of a place are in the list
abbrev pub HasFront : List ℕ → ℕ → Type 0
HasFront ss n = (s : ℕ) → s < n → IsAmong s ss

-- each shard in front of a place is in the list, and each that was settled; from there on no others are
pub record IsPooled (won ss : List ℕ) (n : ℕ) : Type 0 where
  pub front : HasFront ss n
  pub settled : (s : ℕ) → 0 < slice_index won s → IsAmong s ss
  pub only : (s : ℕ) → n ≤ s → IsAmong s ss → 0 < slice_index won s

-- No shard in front of a place decides: each counts, and no more of their records fault, with those in front of the
-- round, than may be passed over
pub record NoneInFront (job : Job) (round : Round) (n : ℕ) : Type 0 where
  pub count : (s : ℕ) → s < n → Counts job (shards_of round) s
  pub few : round.passed + length (faults_in job (take n (shards_of round))) ≤ job.skip

-- the record that is one too many after those in front of the round, of records that fault, if there is one
abbrev pub one_too_many : Job → Round → List Skipped → Option Skipped
one_too_many job round faults = slice_get faults (job.skip - round.passed)

-- a record that may be there, if it stands in front of the one with this number
abbrev pub in_front : ℕ → Option Skipped → Option Skipped
in_front first None = None
in_front first (Some one) = if nat_lt one.record_no first then Some one else None

-- what comes of the shard at a place: tables that stand for its emits, and its records that fault; or the first of
-- them, too many; or it is lost
abbrev pub RestEnds : Job → Round → ℕ → Rest → Type 0
RestEnds job round place (rests.Part total faults) =
    Counts job (shards_of round) place × StandForEmits job.compiled total (emits_at job (shards_of round) place)
    × (seen_faults faults ≡ faults_at job (shards_of round) place)
RestEnds job round place (rests.Bad faults) =
    Bad job (shards_of round) place × (seen_faults faults ≡ take (suc job.skip) (faults_at job (shards_of round) place))
RestEnds job round place rests.Lost = (shard : ShardData) × (slice_get (shards_of round) place ≡ Some shard)
    × (is_lost job shard ≡ true)

-- What a worker of a round begins with.
use Rattle.std.specs.Prelude.{◌≡◌, ℕ, ◌<◌, ◌≤◌, []}
use Rattle.std.specs.Int.{div_ceil}
use Rattle.sz_book_rules.specs.History.{HasWon, HasGiven}
use Rattle.sz_book_rules.specs.Plan.{IsPlan}
use Rattle.sz_claims.specs.Known.{LedgerData, PassData}
use Rattle.sz_attempt.specs.declared.job.Job.{Job}
use Rattle.sz_attempt.specs.Shards.{IsJob}
use Rattle.sz_workers.specs.declared.round.Round.{Round}
use Rattle.sz_workers.specs.Rounds.{IsRound}
use Rattle.sz_workers.specs.Closing.{IsFresh}
use Rattle.sz_workers.specs.Parts.{plan_for}

-- the pass has no lane, and brought each shard that it won with one
pub record HoldsNothing (v : PassData) : Type 0 where
  pub home : v.lane ≡ 0
  pub none_lent : v.lent ≡ []
  pub brought : (s : ℕ) → HasWon s v.mine → HasGiven s v.mine

-- the job and the round are the named ones, which can be run, with no more records passed over in front than may be,
-- and the ledger has their plan
pub record CanWork (named : Job) (of : Round) (job : Job) (round : Round) (ledger : LedgerData) : Type 0 where
  pub job_is : job ≡ named
  pub round_is : round ≡ of
  pub job_runs : IsJob named
  pub round_runs : IsRound of
  pub passed : of.passed ≤ named.skip
  pub plans : IsPlan ledger.plan
  pub plan : ledger.plan ≡ plan_for named of

-- so many lanes are there for so many workers: half as many, rounded up
abbrev pub lanes_for : ℕ → ℕ
lanes_for workers = div_ceil workers 2

-- the worker can work, its pass is fresh, and there is a lane with its number
pub record IsReady (named : Job) (of : Round) (job : Job) (round : Round) (ledger : LedgerData) (v : PassData)
    (lane_no : ℕ) : Type 0 where
  pub can : CanWork named of job round ledger
  pub fresh : IsFresh ledger v.number v
  pub lane : lane_no < ledger.lanes

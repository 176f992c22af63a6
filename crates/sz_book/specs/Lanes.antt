-- What a contract sees of a lane and of a receipt.
use Rattle.std.specs.Prelude.{ℕ, List}
use Rattle.sz_book_rules.specs.Plan.{PlanData}

-- the plan of a lane's load, and the shards that the load stands for
pub record LaneData : Type 0 where
  pub plan : PlanData
  pub shards : List ℕ

-- the plan and the shard of a settlement that was won
pub record ReceiptData : Type 0 where
  pub plan : PlanData
  pub shard : ℕ

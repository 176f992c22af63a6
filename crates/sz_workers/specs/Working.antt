-- What a worker knows of its pass and of its pocket.
use Rattle.std.specs.Prelude.{◌≡◌, ◌⊎◌, ℕ, List, [], ◌∷◌, ◌++◌, Result, Ok, Err}
use Rattle.sz_book_rules.specs.Plan.{IsPlan}
use Rattle.sz_book.specs.Lanes.{LaneData}
use Rattle.sz_book_rules.specs.History.{IsLegal, calls_by, StartsWith, HasWon, HasGiven, IsAmong}
use Rattle.sz_claims.specs.Known.{PassData, AreInHand}

-- what a pass saw is a beginning of what it then has seen, and it is of the same ledger and keeps its lane
pub record Goes (v w : PassData) : Type 0 where
  pub ledger : w.ledger ≡ v.ledger
  pub number : w.number ≡ v.number
  pub made : w.made ≡ v.made
  pub limit : w.limit ≡ v.limit
  pub joined : w.joined ≡ v.joined
  pub lane : w.lane ≡ v.lane
  pub lent : w.lent ≡ v.lent
  pub seen : StartsWith w.seen v.seen

-- what the pass has seen is a legal history, in which its own calls are just those that it made
pub record IsInPlace (v : PassData) : Type 0 where
  pub plan : IsPlan v.ledger.plan
  pub legal : IsLegal v.ledger.plan v.ledger.lanes v.seen
  pub own : calls_by v.number v.seen ≡ v.mine

-- the pocket has the shards that it had, in front of further ones
pub record Grows (old new : LaneData) : Type 0 where
  pub plan : new.plan ≡ old.plan
  pub further : List ℕ
  pub later : new.shards ≡ old.shards ++ further

-- each shard that the pass won is in the pocket, but for those that it brought with a lane of the ledger
abbrev pub HasAllWon : PassData → LaneData → Type 0
HasAllWon v pocket = (s : ℕ) → HasWon s v.mine → IsAmong s pocket.shards ⊎ HasGiven s v.mine

-- A worker's pocket has the plan of its pass's ledger, and stands for just the shards that the pass won and brought
-- with no lane, each once. The pass has no lane
pub record IsAtWork (v : PassData) (pocket : LaneData) : Type 0 where
  pub place : IsInPlace v
  pub plan : pocket.plan ≡ v.ledger.plan
  pub hand : AreInHand pocket.shards v.mine
  pub all : HasAllWon v pocket
  pub idle : v.lane ≡ 0
  pub none_lent : v.lent ≡ []

-- the lane with these shards after its own
abbrev pub longer_by : LaneData → List ℕ → LaneData
longer_by lane shards = record { plan = lane.plan; shards = lane.shards ++ shards }

-- the shard, where there was memory for its part
abbrev pub added_by : {A B : Type 0} → Result A B → ℕ → List ℕ
added_by (Ok a) s = s ∷ []
added_by (Err e) s = []

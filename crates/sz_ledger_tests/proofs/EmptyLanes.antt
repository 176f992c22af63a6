-- Empty lanes with one more.
use Rattle.std.proofs.Common.{◌≡◌, List, [], ◌∷◌, ◌++◌}
use Rattle.sz_book_rules.specs.Plan.{PlanData}
use Rattle.sz_book.specs.Lanes.{LaneData}
use Rattle.sz_claims.specs.Known.{AreEmpty}

pub one_more_empty : (p : PlanData) (lanes : List LaneData) (lane : LaneData) → AreEmpty p lanes → lane.plan ≡ p
    → lane.shards ≡ [] → AreEmpty p (lanes ++ lane ∷ [])
one_more_empty p [] lane h plan none = (plan, none, tt)
one_more_empty p (l ∷ ls) lane h plan none = (h.0, h.1, one_more_empty p ls lane h.2 plan none)

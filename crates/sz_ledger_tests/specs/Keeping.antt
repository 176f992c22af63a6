-- What calls of a pass leave as it was.
use Rattle.std.specs.Prelude.{◌≡◌}
use Rattle.sz_claims.specs.Known.{PassData}

-- the pass is of the same ledger, has its number, and knows of the same passes; it has the lane that it had, or none
-- again
pub record KeepsPlace (v w : PassData) : Type 0 where
  pub ledger : w.ledger ≡ v.ledger
  pub number : w.number ≡ v.number
  pub made : w.made ≡ v.made
  pub joined : w.joined ≡ v.joined
  pub lane : w.lane ≡ v.lane

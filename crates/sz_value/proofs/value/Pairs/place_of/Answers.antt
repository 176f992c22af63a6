-- Their number is that which is kept.
use Rattle.std.proofs.Common.{arith}
use Rattle.sz_value.proofs.value.Pairs.place_of.Goals as goal

pub place_in-requires-clause-counted : goal.place_in-requires-clause-counted
place_in-requires-clause-counted c =
    rw c.deref.ensures.value (omega (arith, c.self.invariant.count, c.self.invariant.small))

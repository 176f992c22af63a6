-- No keys rise.
use Rattle.std.proofs.Common.{refl, arith}
use Rattle.std.specs.List.Sorted.{IsStrictlySortedBy}
use Rattle.sz_value.proofs.value.Pairs.new.Goals as goal

pub invariant_of-result : goal.invariant_of-result
unfolding IsStrictlySortedBy
invariant_of-result c =
    rw c.new.ensures.items (record { runs = (tt, tt); ends = tt; count = refl; small = omega arith })

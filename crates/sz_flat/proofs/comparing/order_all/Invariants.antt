-- As what is left compares, so do all.
use Rattle.std.proofs.Common.{length}
use Rattle.sz_flat.specs.Comparing.{Orders}
use Rattle.std.specs.declared.cmp.Ordering.{Ordering}
use Rattle.sz_flat.proofs.comparing.order_all.Given as goal

abbrev pub invariant-loop-rest : goal.invariant-loop-rest
invariant-loop-rest l = (found : Ordering) → Orders l.rest l.other_rest found → Orders l.one l.other found

abbrev pub decreases-loop-rest : goal.decreases-loop-rest
decreases-loop-rest l = length l.rest

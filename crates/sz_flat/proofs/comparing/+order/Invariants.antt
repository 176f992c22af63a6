-- What is found of the parts that are left is found of all of them, and what is left is no longer.
use Rattle.std.proofs.Common.{◌*◌, ◌+◌, length}
use Rattle.sz_flat.proofs.ComparingLemmas.{IsLeft}
use Rattle.sz_flat.proofs.comparing.+order.Given as goal

abbrev pub invariant-order_parts-loop : goal.invariant-order_parts-loop
invariant-order_parts-loop l = IsLeft l.fn.count l.fn.other_count l.counter l.fn.one l.fn.other l.rest l.other_rest

abbrev pub decreases-order_fronts : goal.decreases-order_fronts
decreases-order_fronts l = 4 * length l.one.now

abbrev pub decreases-order_kind : goal.decreases-order_kind
decreases-order_kind l = 4 * length l.one.now + 3

abbrev pub decreases-order_lists : goal.decreases-order_lists
decreases-order_lists l = 4 * length l.one.now + 2

abbrev pub decreases-order_maps : goal.decreases-order_maps
decreases-order_maps l = 4 * length l.one.now + 2

abbrev pub decreases-order_parts : goal.decreases-order_parts
decreases-order_parts l = 4 * length l.one.now + 1

-- What is ahead of the place decides.
use Rattle.std.proofs.Common.{◌≡◌, drop}
use Rattle.sz_value.proofs.OrderLemmas.{list_order, pairs_order}
use Rattle.sz_value.proofs.ordering.+order.Given as goal

abbrev pub invariant-order_lists-loop-i : goal.invariant-order_lists-loop-i
invariant-order_lists-loop-i l =
    list_order (drop l.i l.a-inside.values.items) (drop l.i l.b-inside.values.items)
    ≡ list_order l.a-inside.values.items l.b-inside.values.items

abbrev pub invariant-order_maps-loop-i : goal.invariant-order_maps-loop-i
invariant-order_maps-loop-i l =
    pairs_order (drop l.i l.a) (drop l.i l.b) ≡ pairs_order l.a l.b

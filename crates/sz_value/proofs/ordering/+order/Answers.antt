-- The pairs at the place decide where they differ, and else what is after it.
use Rattle.std.proofs.Common.{sym, ◌∙◌}
use Rattle.sz_value.specs.Seen.{seen_pair}
use Rattle.sz_value.proofs.OrderLemmas.{pairs_next, then_told, then_left}
use Rattle.sz_value.proofs.ordering.+order.Goals as goal

pub order_maps-returns-then-is_ne : goal.order_maps-returns-then-is_ne
order_maps-returns-then-is_ne n c =
    let next = pairs_next c.args.a.now c.args.b.now c.loop-i.i (seen_pair c.pair.result.now)
    (seen_pair c.pair-in-loop-i.result.now) c.pair.ensures.value c.pair-in-loop-i.ensures.value in
    record {
      value =
          then_told c.order_pairs-found.result _ _ _ c.order_pairs-found.ensures.value (sym next ∙ c.loop-i.invariant)
          (sym c.is_ne.ensures ∙ c.if-is_ne.true);
    }

pub order_maps-loop-i-preserved : goal.order_maps-loop-i-preserved
order_maps-loop-i-preserved n c =
    let next = pairs_next c.args.a.now c.args.b.now c.loop-i.i (seen_pair c.pair.result.now)
    (seen_pair c.pair-in-loop-i.result.now) c.pair.ensures.value c.pair-in-loop-i.ensures.value in
    then_left c.order_pairs-found.result _ _ _ c.order_pairs-found.ensures.value (sym next ∙ c.loop-i.invariant)
    (sym c.is_ne.ensures ∙ c.if-is_ne.false)

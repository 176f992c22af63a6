-- What is found of the parts is found of the whole.
use Rattle.std.proofs.Common.{◌∷◌, Err, subst, sym, arith, rules}
use Rattle.std.specs.declared.cmp.Ordering.TheVariants.{Equal}
use Rattle.sz_flat.proofs.ComparingLemmas.{pairs_found, left_equal, left_differ, no_first, no_second, truths_found, other_kinds}
use Rattle.sz_value.specs.Order.{compare}
use Rattle.sz_flat.specs.Reading.{values}
use Rattle.sz_flat.specs.Comparing.{Compares}
use Rattle.sz_flat.proofs.comparing.+order.Goals as goal

pub order_maps-returns-clause-value : goal.order_maps-returns-clause-value
order_maps-returns-clause-value t c =
    pairs_found c.args.one.now c.args.other.now c.in-Ok.count c.in-Ok-read_length.other_count c.in-Ok.after.now
    c.in-Ok-read_length.behind.now
    c.order_parts.result c.in-Ok.ensures.value c.in-Ok-read_length.ensures.value c.order_parts.ensures.value

pub order_parts-returns-in-Err-clause-value : goal.order_parts-returns-in-Err-clause-value
order_parts-returns-in-Err-clause-value t c =
    let in_both = c.loop-test.true in
    let end = c.min-end.ensures in
    left_differ c.args.count c.args.other_count c.loop.counter c.args.one.now c.args.other.now c.loop.rest.now
    c.loop.other_rest.now c.loop.invariant
    (omega (arith, in_both, end)) (omega (arith, in_both, end)) c.in-Err.found c.in-Err.ensures.value

pub order_parts-loop-preserved : goal.order_parts-loop-preserved
order_parts-loop-preserved t c =
    let in_both = c.loop-test.true in
    let end = c.min-end.ensures in
    left_equal c.args.count c.args.other_count c.loop.counter c.args.one.now c.args.other.now c.loop.rest.now
    c.loop.other_rest.now c.loop.invariant (omega (arith, in_both, end)) (omega (arith, in_both, end))
    (c.in-Ok.after, c.in-Ok.behind) c.in-Ok.ensures.value c.in-Ok.ensures.less

pub order_fronts-returns-in_default-clause-value : goal.order_fronts-returns-in_default-clause-value
order_fronts-returns-in_default-clause-value t c =
    no_first c.args.one.now c.args.other.now (Err Equal) c.in_default.len_below

pub order_fronts-returns-in_default-other-clause-value : goal.order_fronts-returns-in_default-other-clause-value
order_fronts-returns-in_default-other-clause-value t c =
    no_second c.args.one.now c.args.other.now (Err Equal) c.in_default-other.len_below

pub order_kind-returns-in-1-clause-value : goal.order_kind-returns-in-1-clause-value
order_kind-returns-in-1-clause-value t c =
    subst
    (λ k. Compares values compare (k ∷ c.args.one.now) (k ∷ c.args.other.now) c.order_truths.result) (sym c.in-1.is)
    (truths_found c.args.one.now c.args.other.now c.order_truths.result c.order_truths.ensures.value)

pub order_kind-returns-in_default-clause-value : goal.order_kind-returns-in_default-clause-value
order_kind-returns-in_default-clause-value t c =
    other_kinds c.args.kind c.args.one.now (c.args.kind ∷ c.args.other.now) (Err Equal) (search rules)

-- The weight of the pair goes over to what is weighed.
use Rattle.std.proofs.Common.{arith}
use Rattle.sz_value.specs.Seen.{seen_pair}
use Rattle.sz_value.proofs.WeightLemmas.{pairs_left}
use Rattle.sz_value.proofs.weighing.+weight.Goals as goal

pub weight_of_pairs-loop-place-preserved : goal.weight_of_pairs-loop-place-preserved
weight_of_pairs-loop-place-preserved n c =
    let left =
    pairs_left c.args.pairs.now c.loop-place.place (seen_pair c.pair-pair.result.now) c.pair-pair.ensures.value in (
      omega (
        arith,
        left,
        c.loop-place.invariant.0,
        c.saturating_add-total.ensures,
        c.saturating_add-both.ensures,
        c.weight.ensures.value,
        c.weight-in-loop-place.ensures.value,
      ),
      omega (arith, c.saturating_add-total.type_inv),
    )

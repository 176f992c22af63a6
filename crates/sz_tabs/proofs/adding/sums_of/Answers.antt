-- Each turn adds the components of the next value.
use Rattle.std.proofs.Common.{◌^◌, ◌<◌, arith}
use Rattle.sz_tabs.proofs.AddingLemmas.{summed_within, summed_more}
use Rattle.sz_tabs.proofs.adding.sums_of.Goals as goal

pub add_value-requires : goal.add_value-requires
add_value-requires c =
    let few : c.loop-one.one-index < 2 ^ 63 = omega (arith, c.loop-one-test.true, c.requires) in
    summed_within c.loop-one.sums.items c.args.kept.now c.loop-one.one-index few c.loop-one.invariant

pub loop-one-preserved : goal.loop-one-preserved
loop-one-preserved c =
    summed_more c.loop-one.sums.items c.add_value.new.sums.items c.args.kept.now c.loop-one.one-index
    c.one-item.result c.loop-one-test.true c.one-item.is
    c.in_ok-add_value.ensures.value c.in_ok-add_value.ensures.within c.loop-one.invariant

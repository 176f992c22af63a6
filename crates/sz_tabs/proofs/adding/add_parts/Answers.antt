-- Each turn adds the number of the next part.
use Rattle.std.proofs.Common.{◌∙◌, ◌^◌, ◌≤◌, length, ap, arith, rules}
use Rattle.sz_tabs.specs.Bounds.{added_at}
use Rattle.sz_tabs.proofs.AddingLemmas.{passed, added_none, added_place, added_within, added_more}
use Rattle.sz_tabs.proofs.adding.add_parts.Goals as goal

pub loop-at-init : goal.loop-at-init
loop-at-init c = added_none c.args.sums.now.items c.args.parts.now

pub add_at-requires-clause-place : goal.add_at-requires-clause-place
add_at-requires-clause-place c =
    let place : c.loop-at.at ≤ length c.loop-at.sums.items =
    added_place c.args.sums.now.items c.loop-at.sums.items c.args.parts.now c.loop-at.at c.loop-at.invariant in
    search rules

pub add_at-requires-clause-within : goal.add_at-requires-clause-within
add_at-requires-clause-within c = added_within c.args.sums.now.items c.loop-at.sums.items c.args.parts.now
    c.loop-at.at c.requires c.loop-at.invariant

pub loop-at-preserved : goal.loop-at-preserved
loop-at-preserved c =
    let number = passed (2 ^ 63) c.number_of.result (omega arith) c.number_of.ensures.within in
    let added = c.in_ok-add_at.ensures.value ∙ ap (λ n. added_at c.loop-at.at n c.loop-at.sums.items) number in
    added_more c.args.sums.now.items c.loop-at.sums.items c.add_at.new.sums.items c.args.parts.now c.loop-at.at
    c.index-parts-at.result c.number_of.result c.loop-at-test.true c.index-parts-at.is c.number_of.ensures.value
    c.number_of.ensures.within added c.loop-at.invariant

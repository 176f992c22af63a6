-- Each turn adds the number of the next part.
use Rattle.std.proofs.Common.{◌∙◌, ◌+◌, ◌^◌, ◌<◌, length, take, sym, ap, subst, refl, arith, rules}
use Rattle.sz_tabs.specs.Bounds.{AreWithin, added_at}
use Rattle.sz_tabs.proofs.AddingLemmas.{passed, numbers_of, added_none, added_within, added_more}
use Rattle.sz_sum.proofs.GrownLemmas.{length_first}
use Rattle.sz_sum.proofs.adding.add_parts.Goals as goal

pub loop-at-init : goal.loop-at-init
loop-at-init c = added_none c.args.sums.now c.args.parts.now

pub add_at-requires-clause-place : goal.add_at-requires-clause-place
add_at-requires-clause-place c =
    let grown = length_first c.args.sums.now (numbers_of (take c.loop-at.at c.args.parts.now)) in
    let same = ap length c.loop-at.invariant.is in
    let place : c.loop-at.at < length c.loop-at.sums =
    omega (arith, grown, same, c.requires.room, c.loop-at-test.true) in
    search rules

pub add_at-requires-clause-within : goal.add_at-requires-clause-within
add_at-requires-clause-within c =
    added_within c.args.sums.now c.loop-at.sums c.args.parts.now c.loop-at.at c.requires.within c.loop-at.invariant

pub add_at-requires-clause-fits : goal.add_at-requires-clause-fits
add_at-requires-clause-fits c =
    let n = c.number_of.result in
    let number = passed (2 ^ 63) n (omega arith) c.number_of.ensures.within in
    let next = added_at c.loop-at.at n c.loop-at.sums in
    let more = added_more c.args.sums.now c.loop-at.sums next c.args.parts.now c.loop-at.at c.index-parts-at.result n
    c.loop-at-test.true c.index-parts-at.is c.number_of.ensures.value c.number_of.ensures.within refl
    c.loop-at.invariant in
    let within = added_within c.args.sums.now next c.args.parts.now (c.loop-at.at + 1) c.requires.within more in
    subst (λ k. AreWithin (2 ^ 126 + 2 ^ 63) (added_at c.loop-at.at k c.loop-at.sums)) (sym number) within

pub loop-at-preserved : goal.loop-at-preserved
loop-at-preserved c =
    let number = passed (2 ^ 63) c.number_of.result (omega arith) c.number_of.ensures.within in
    let added = c.add_at.ensures.value ∙ ap (λ n. added_at c.loop-at.at n c.loop-at.sums) number in
    added_more c.args.sums.now c.loop-at.sums c.add_at.new.self c.args.parts.now c.loop-at.at c.index-parts-at.result
    c.number_of.result c.loop-at-test.true c.index-parts-at.is c.number_of.ensures.value c.number_of.ensures.within
    added c.loop-at.invariant

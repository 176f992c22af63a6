-- Each turn adds the next sum.
use Rattle.std.proofs.Common.{◌∙◌, ◌+◌, ◌^◌, ◌<◌, length, pos, slice_index_or, sym, ap, subst, refl, arith, rules}
use Rattle.sz_tabs.specs.Bounds.{IsWithin, AreWithin, added_at}
use Rattle.sz_tabs.proofs.ForCallers.{passed, within_further}
use Rattle.sz_sum.proofs.GrownLemmas.{within_at, picked, grown_none, grown_place, grown_within, grown_next, grown_next_within}
use Rattle.sz_sum.proofs.adding.add_sums.Goals as goal

pub loop-at-init : goal.loop-at-init
loop-at-init c = grown_none c.args.sums.now c.args.more.now

pub add_at-requires-clause-place : goal.add_at-requires-clause-place
add_at-requires-clause-place c =
    let place : c.loop-at.at < length c.loop-at.sums =
    grown_place c.args.sums.now c.loop-at.sums c.args.more.now c.loop-at.at c.requires.room c.loop-at.invariant
    c.loop-at-test.true in
    search rules

pub add_at-requires-clause-within : goal.add_at-requires-clause-within
add_at-requires-clause-within c =
    within_further (2 ^ 126) (2 ^ 126 + 2 ^ 63) c.loop-at.sums (omega arith)
    (grown_within c.args.sums.now c.loop-at.sums c.args.more.now c.loop-at.at c.requires.room c.loop-at.invariant
    (2 ^ 126) c.requires.within c.requires.fits)

pub add_at-requires-clause-number : goal.add_at-requires-clause-number
add_at-requires-clause-number c =
    let n = slice_index_or c.args.more.now c.loop-at.at (pos 0) in
    let there = picked c.args.more.now c.loop-at.at n c.loop-at-test.true refl in
    let near = within_at (2 ^ 126) c.args.more.now c.loop-at.at n c.loop-at-test.true there c.requires.more in
    subst (IsWithin (2 ^ 126)) (sym (passed (2 ^ 126) n (omega arith) near)) near

pub add_at-requires-clause-fits : goal.add_at-requires-clause-fits
add_at-requires-clause-fits c =
    let n = slice_index_or c.args.more.now c.loop-at.at (pos 0) in
    let there = picked c.args.more.now c.loop-at.at n c.loop-at-test.true refl in
    let near = within_at (2 ^ 126) c.args.more.now c.loop-at.at n c.loop-at-test.true there c.requires.more in
    let next = added_at c.loop-at.at n c.loop-at.sums in
    let within = grown_next_within c.args.sums.now c.loop-at.sums c.args.more.now c.loop-at.at c.requires.room
    c.loop-at.invariant (2 ^ 126) n c.loop-at-test.true there c.requires.within c.requires.fits in
    subst (λ k. AreWithin (2 ^ 126 + 2 ^ 63) (added_at c.loop-at.at k c.loop-at.sums))
    (sym (passed (2 ^ 126) n (omega arith) near))
    (within_further (2 ^ 126) (2 ^ 126 + 2 ^ 63) next (omega arith) within)

pub loop-at-preserved : goal.loop-at-preserved
loop-at-preserved c =
    let n = slice_index_or c.args.more.now c.loop-at.at (pos 0) in
    let there = picked c.args.more.now c.loop-at.at n c.loop-at-test.true refl in
    let near = within_at (2 ^ 126) c.args.more.now c.loop-at.at n c.loop-at-test.true there c.requires.more in
    record {
      is =
          c.add_at.ensures.value
          ∙ ap (λ k. added_at c.loop-at.at k c.loop-at.sums) (passed (2 ^ 126) n (omega arith) near)
          ∙ grown_next c.args.sums.now c.loop-at.sums c.args.more.now c.loop-at.at c.requires.room c.loop-at.invariant n
          c.loop-at-test.true there;
      upto = omega (arith, c.loop-at-test.true);
    }

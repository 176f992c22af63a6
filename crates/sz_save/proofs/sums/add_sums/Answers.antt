-- Each turn adds the next two sums, in place.
use Rattle.std.proofs.Common.{◌≡◌, ◌∙◌, ◌+◌, ◌^◌, ◌<◌, ◌+ℤ◌, length, pos, set, slice_get, slice_index_or, sym, ap, subst, refl, arith, to_z, of_z}
use Rattle.std.specs.Int.{w128}
use Rattle.sz_tabs.specs.Bounds.{IsWithin}
use Rattle.sz_tabs.proofs.ForCallers.{passed}
use Rattle.sz_save.proofs.SumLemmas.{still_long, next_stands, next_added, all_added, found_at, picked, within_at, both_within}
use Rattle.sz_save.proofs.sums.add_sums.Goals as goal

pub get-requires : goal.get-requires
get-requires c =
    let same = ap length c.loop-i.invariant
    ∙ still_long c.args.sums.now c.args.others.now c.loop-i.i c.requires.as_many in
    record { within = omega (arith, same, c.loop-i-test.true, c.len-i-end.ensures.value) }

pub set-requires : goal.set-requires
set-requires c =
    let same = ap length c.loop-i.invariant
    ∙ still_long c.args.sums.now c.args.others.now c.loop-i.i c.requires.as_many in
    record { within = omega (arith, same, c.loop-i-test.true, c.len-i-end.ensures.value) }

pub both-sum-requires : goal.both-sum-requires
both-sum-requires c =
    let i = c.loop-i.i in
    let n = c.get.result.now in
    let m = slice_index_or c.args.others.now i (pos 0) in
    let less : i < length c.args.sums.now = omega (arith, c.loop-i-test.true, c.len-i-end.ensures.value) in
    let also : i < length c.args.others.now = omega (arith, less, c.requires.as_many) in
    let there = found_at c.args.sums.now i n
    (sym (next_stands c.args.sums.now c.args.others.now i c.requires.as_many less)
    ∙ (λ j. slice_get (sym c.loop-i.invariant j) i) ∙ c.get.ensures.value) in
    let other_there = picked c.args.others.now i m also refl in
    let first =
    passed (2 ^ 126) n (omega arith) (within_at (2 ^ 126) c.args.sums.now i n less there c.requires.within) in
    let second =
    passed (2 ^ 126) m (omega arith) (within_at (2 ^ 126) c.args.others.now i m also other_there c.requires.others) in
    let both = both_within (2 ^ 126) c.args.sums.now c.args.others.now i n m c.requires.as_many less there other_there
    c.requires.fits in
    record { fits = subst (IsWithin (2 ^ 126)) (λ k. sym first k +ℤ sym second k) both }

pub loop-i-preserved : goal.loop-i-preserved
loop-i-preserved c =
    let i = c.loop-i.i in
    let n = c.get.result.now in
    let m = slice_index_or c.args.others.now i (pos 0) in
    let less : i < length c.args.sums.now = omega (arith, c.loop-i-test.true, c.len-i-end.ensures.value) in
    let also : i < length c.args.others.now = omega (arith, less, c.requires.as_many) in
    let there = found_at c.args.sums.now i n
    (sym (next_stands c.args.sums.now c.args.others.now i c.requires.as_many less)
    ∙ (λ j. slice_get (sym c.loop-i.invariant j) i) ∙ c.get.ensures.value) in
    let other_there = picked c.args.others.now i m also refl in
    let first =
    passed (2 ^ 126) n (omega arith) (within_at (2 ^ 126) c.args.sums.now i n less there c.requires.within) in
    let second =
    passed (2 ^ 126) m (omega arith) (within_at (2 ^ 126) c.args.others.now i m also other_there c.requires.others) in
    let both = both_within (2 ^ 126) c.args.sums.now c.args.others.now i n m c.requires.as_many less there other_there
    c.requires.fits in
    let sum : c.both-sum.result ≡ n +ℤ m = c.both-sum.ensures.value ∙ (λ k. first k +ℤ second k) in
    let stored = passed (2 ^ 126) c.both-sum.result (omega arith) (subst (IsWithin (2 ^ 126)) (sym sum) both) ∙ sum in
    c.set.ensures.value ∙ (λ j. set (c.loop-i.invariant j) i (to_z w128 (of_z w128 c.both-sum.result)))
    ∙ next_added c.args.sums.now c.args.others.now i n m
    (to_z w128 (of_z w128 c.both-sum.result)) c.requires.as_many less there other_there stored

pub returns : goal.returns
returns c = record {
  value = c.loop-i.invariant
      ∙ all_added c.args.sums.now c.args.others.now c.loop-i.i c.requires.as_many
      (omega (arith, c.loop-i-test.false, c.len-i-end.ensures.value));
}

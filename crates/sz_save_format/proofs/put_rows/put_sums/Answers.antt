-- Each sum is appended after those before it.
use Rattle.std.proofs.Common.{◌∙◌, ◌++◌, pos, get_or, ap, rules}
use Rattle.std.specs.Int.{w128}
use Rattle.std.specs.Int.RustNames.{FitsSigned}
use Rattle.std.proofs.lemmas.Int.{to_z-of_z}
use Rattle.std.proofs.lemmas.List.{get_or_default}
use Rattle.sz_save_format.specs.Entries.{sum_bytes}
use Rattle.sz_save_format.proofs.WritingLemmas.{one_appended}
use Rattle.sz_save_format.proofs.put_rows.put_sums.Goals as goal

pub loop-sum-preserved : goal.loop-sum-preserved
loop-sum-preserved c =
    let sums = c.args.sums.now in
    let i = c.loop-sum.sum-index in
    let n = get_or sums i (pos 0) in
    let fits : FitsSigned w128 n = search rules in
    let now = c.loop-sum.out.items in
    one_appended sum_bytes sums i n c.args.out.now.items now c.put_sum.new.out.items c.loop-sum-test.true
    (get_or_default sums i (pos 0) n c.loop-sum-test.true)
    c.loop-sum.invariant (c.in_ok-put_sum.ensures.value ∙ ap (λ m. now ++ sum_bytes m) (to_z-of_z w128 n fits))

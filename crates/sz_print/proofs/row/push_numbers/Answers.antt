-- Each number is appended after those before it.
use Rattle.std.proofs.Common.{◌∙◌, ◌++◌, pos, get_or, ap, rules}
use Rattle.std.specs.Fmt.{signed_decimal}
use Rattle.std.specs.Int.{w128}
use Rattle.std.specs.Int.RustNames.{FitsSigned}
use Rattle.std.proofs.lemmas.Int.{to_z-of_z}
use Rattle.std.proofs.lemmas.List.{get_or_default}
use Rattle.sz_print.proofs.JoinedLemmas.{one_more}
use Rattle.sz_print.proofs.row.push_numbers.Goals as goal

pub loop-at-preserved : goal.loop-at-preserved
loop-at-preserved c =
    let n = get_or c.args.numbers.now c.loop-at.at (pos 0) in
    let fits : FitsSigned w128 n = search rules in
    let comma = c.push_comma.new.out.items in
    one_more signed_decimal c.args.numbers.now c.loop-at.at n c.args.out.now.items c.loop-at.out.items comma
    c.push_number.new.out.items c.loop-at-test.true (get_or_default c.args.numbers.now c.loop-at.at (pos 0) n
    c.loop-at-test.true) c.loop-at.invariant c.in_ok-push_comma.ensures.value
    (c.in_ok-push_number.ensures.value ∙ ap (λ m. comma ++ signed_decimal m) (to_z-of_z w128 n fits))

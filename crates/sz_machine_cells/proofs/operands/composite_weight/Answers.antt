-- A composite weighs one more than its parts, and stays at the greatest number.
use Rattle.std.proofs.Common.{rules, arith, ◌≡◌, ◌<◌, ◌-◌, ◌^◌, true, false, is_some, sym, ap}
use Rattle.std.specs.List.{list_all}
use Rattle.sz_machine_cells.specs.Results.{composite_weight}
use Rattle.sz_machine_cells.proofs.ListLemmas.{are_not_all}
use Rattle.sz_machine_cells.proofs.PartLemmas.{composite_within, composite_passes, composite_most}
use Rattle.sz_machine_cells.proofs.operands.composite_weight.Goals as goal

pub returns-then-not-all_defined-clause-some : goal.returns-then-not-all_defined-clause-some
returns-then-not-all_defined-clause-some c =
    let none : list_all is_some c.args.cells.now ≡ false = search rules in
    (ap composite_weight (sym (are_not_all c.args.cells.now none)), omega arith)

pub returns-in-Some-clause-some : goal.returns-in-Some-clause-some
returns-in-Some-clause-some c =
    let all : list_all is_some c.args.cells.now ≡ true = search rules in
    let sum = c.in-Some.ensures.some in (
      composite_within c.args.cells.now c.in-Some.weight c.args.most all sum.0 sum.1
          (omega (arith, c.ranges.most.fits)),
      sum.1,
    )

pub returns-in-None-clause-some : goal.returns-in-None-clause-some
returns-in-None-clause-some c =
    let all : list_all is_some c.args.cells.now ≡ true = search rules in
    let is_most : c.args.most ≡ 2 ^ 64 - 1 = omega (arith, c.if-most-eq18446744073709551615.true) in
    (composite_most c.args.cells.now c.args.most all c.in-None.ensures.none is_most, omega arith)

pub returns-in-None-2-clause-none : goal.returns-in-None-2-clause-none
returns-in-None-2-clause-none c =
    let all : list_all is_some c.args.cells.now ≡ true = search rules in
    let less : c.args.most < 2 ^ 64 - 1 = omega (arith, c.ranges.most.fits, c.if-most-eq18446744073709551615.false) in
    composite_passes c.args.cells.now c.args.most all c.in-None.ensures.none less

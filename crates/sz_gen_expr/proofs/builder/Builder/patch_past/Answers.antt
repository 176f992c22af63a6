use Rattle.std.proofs.Common.{◌∙◌, sym}
use Rattle.sz_gen_expr.specs.Building.{with_past}
use Rattle.sz_gen_expr.proofs.Patches.{changed_set, changed_none}
use Rattle.sz_gen_expr.proofs.builder.Builder.patch_past.Goals as goal

pub returns-in-Some-clause-lines : goal.returns-in-Some-clause-lines
returns-in-Some-clause-lines c =
    c.set.ensures.value
    ∙ changed_set with_past c.args.self.now.lines c.args.at c.args.past c.get-line.result.now c.in-Some.instr
    c.get-line.ensures.value (sym c.in-Some.ensures.value)

pub returns-in_default-clause-lines : goal.returns-in_default-clause-lines
returns-in_default-clause-lines c =
    sym (changed_none with_past c.args.self.now.lines c.args.at c.args.past c.get-line.result.now
    c.get-line.ensures.value (sym c.passing.ensures.value ∙ c.in_default.is))

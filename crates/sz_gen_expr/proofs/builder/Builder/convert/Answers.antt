-- What was added is cut off again.
use Rattle.sz_gen_expr.proofs.Undone.{undone}
use Rattle.sz_gen_expr.proofs.builder.Builder.convert.Goals as goal

pub returns-in-Err-clause-err : goal.returns-in-Err-clause-err
returns-in-Err-clause-err c = undone c.mark-mark.ensures.value c.add_conversion.ensures.kept c.cut.ensures.value

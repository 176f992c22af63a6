-- What was added is cut off again.
use Rattle.sz_gen_expr.proofs.Undone.{undone}
use Rattle.sz_gen_expr.proofs.generate.gen_all.Goals as goal

pub returns-in-Err-clause-err : goal.returns-in-Err-clause-err
returns-in-Err-clause-err c = undone c.mark-mark.ensures.value c.append_all.ensures.kept c.cut.ensures.value

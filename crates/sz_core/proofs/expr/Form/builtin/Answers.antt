-- The arguments are seen as the list of what is seen of each.
use Rattle.sz_core.proofs.RowLemmas.{form_of_builtin}
use Rattle.sz_core.proofs.expr.Form.builtin.Goals as goal

pub returns : goal.returns
returns c = record { value = form_of_builtin c.args.function c.args.arguments }

-- The arguments are seen as the list of what is seen of each.
use Rattle.sz_core.proofs.RowLemmas.{form_of_call}
use Rattle.sz_core.proofs.expr.Form.call.Goals as goal

pub returns : goal.returns
returns c = record { value = form_of_call c.args.function c.args.arguments }

use Rattle.sz_tree.proofs.RowLemmas.{tree_of_call}
use Rattle.sz_tree.proofs.expr.Expr.call.Goals as goal

pub returns : goal.returns
returns c = record { value = tree_of_call c.args.name c.args.arguments }

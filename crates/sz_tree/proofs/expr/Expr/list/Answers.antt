use Rattle.sz_tree.proofs.RowLemmas.{tree_of_list}
use Rattle.sz_tree.proofs.expr.Expr.list.Goals as goal

pub returns : goal.returns
returns c = record { value = tree_of_list c.args.place c.args.items }

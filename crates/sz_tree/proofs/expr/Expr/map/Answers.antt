use Rattle.sz_tree.proofs.RowLemmas.{tree_of_map}
use Rattle.sz_tree.proofs.expr.Expr.map.Goals as goal

pub returns : goal.returns
returns c = record { value = tree_of_map c.args.place c.args.pairs }

use Rattle.sz_tree.proofs.RowLemmas.{type_of_tuple}
use Rattle.sz_tree.proofs.types.TypeTree.tuple.Goals as goal

pub returns : goal.returns
returns c = record { value = type_of_tuple c.args.place c.args.parts }

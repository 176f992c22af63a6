use Rattle.sz_tree.proofs.RowLemmas.{type_of_proto}
use Rattle.sz_tree.proofs.types.TypeTree.proto.Goals as goal

pub returns : goal.returns
returns c = record { value = type_of_proto c.args.place c.args.fields }

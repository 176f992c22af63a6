use Rattle.sz_parse.proofs.Whole.{one_tree}
use Rattle.sz_parse.proofs.laws.trees_are_unique.Goals as goal

pub returns : goal.returns
returns c = one_tree

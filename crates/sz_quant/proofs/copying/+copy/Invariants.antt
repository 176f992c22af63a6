-- What is copied so far is the front.
use Rattle.std.proofs.Common.{◌≡◌, map, take}
use Rattle.sz_tree.specs.View.{tree_of, pair_of}
use Rattle.sz_quant.proofs.copying.+copy.Given as goal

abbrev pub invariant-copy_all-loop-tree : goal.invariant-copy_all-loop-tree
invariant-copy_all-loop-tree l = map tree_of l.made.items ≡ map tree_of (take l.tree-index l.trees)

abbrev pub invariant-copy_pairs-loop-pair : goal.invariant-copy_pairs-loop-pair
invariant-copy_pairs-loop-pair l = map pair_of l.made.items ≡ map pair_of (take l.pair-index l.pairs)

-- One from here on can emit exactly where one of all can.
use Rattle.std.proofs.Common.{◌≡◌, map, drop}
use Rattle.sz_tree.specs.Expressions.{exps_of, pairs_of}
use Rattle.sz_tree.specs.View.{tree_of, pair_of}
use Rattle.sz_check_names.specs.Knowledge.{blocks_of}
use Rattle.sz_check_rules.specs.EmittingTrees.{emits_by, exps_emit, pairs_emit}
use Rattle.sz_check_emits.specs.Hidden.{hidden_of}
use Rattle.sz_check_emits.proofs.emitting.+emits.Given as goal

abbrev pub invariant-exps_emit-loop-tree : goal.invariant-exps_emit-loop-tree
invariant-exps_emit-loop-tree l =
    exps_emit (emits_by (blocks_of l.known)) (hidden_of l.hidden) (exps_of (map tree_of (drop l.tree-index l.trees)))
    ≡ exps_emit (emits_by (blocks_of l.known)) (hidden_of l.hidden) (exps_of (map tree_of l.trees))

abbrev pub invariant-pairs_emit-loop-pair : goal.invariant-pairs_emit-loop-pair
invariant-pairs_emit-loop-pair l =
    pairs_emit (emits_by (blocks_of l.known)) (hidden_of l.hidden) (pairs_of (map pair_of (drop l.pair-index l.pairs)))
    ≡ pairs_emit (emits_by (blocks_of l.known)) (hidden_of l.hidden) (pairs_of (map pair_of l.pairs))

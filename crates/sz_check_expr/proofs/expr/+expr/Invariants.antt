-- What is judged, and the judgement of what is after it, are the judgement of all.
use Rattle.std.proofs.Common.{◌≡◌, map}
use Rattle.sz_tree.specs.Expressions.{exps_of, pairs_of}
use Rattle.sz_tree.specs.View.{tree_of, pair_of}
use Rattle.sz_core.specs.Nodes.{with_node}
use Rattle.sz_core.specs.View.{node_of, pairing_of}
use Rattle.sz_check_rules.specs.JudgingExpressions.{judge_exps, judge_pairs}
use Rattle.sz_check_expr.specs.Asking.{asks_of, asked_of}
use Rattle.sz_check_names.specs.Knowledge.{blocks_for}
use Rattle.sz_check_names.specs.Sites.{may_emit}
use Rattle.sz_check_names.specs.Turns.{following}
use Rattle.sz_check_expr.specs.Lists.{with_pair}
use Rattle.sz_check_expr.proofs.ExpLemmas.{exps_from, pairs_from}
use Rattle.sz_check_expr.proofs.expr.+expr.Given as goal

abbrev pub invariant-judge_exps-loop-tree : goal.invariant-judge_exps-loop-tree
invariant-judge_exps-loop-tree l =
    following with_node (map node_of l.nodes.items)
    (exps_from (blocks_for l.known l.site) (may_emit l.site) (asks_of l.asks) l.trees l.tree-index)
    ≡ judge_exps (blocks_for l.known l.site) (may_emit l.site) (asks_of l.fn.asks) (exps_of (map tree_of l.trees))

abbrev pub invariant-judge_pairs-loop-tree : goal.invariant-judge_pairs-loop-tree
invariant-judge_pairs-loop-tree l =
    following with_pair (map pairing_of l.nodes.items)
    (pairs_from (blocks_for l.known l.site) (may_emit l.site) (asked_of l.key) (asked_of l.value) l.trees l.tree-index)
    ≡ judge_pairs (blocks_for l.known l.site) (may_emit l.site) (asked_of l.key) (asked_of l.value)
    (pairs_of (map pair_of l.trees))

-- Those from here on agree exactly where all do.
use Rattle.std.proofs.Common.{◌≡◌, map, drop}
use Rattle.sz_tree.specs.Expressions.{exps_of}
use Rattle.sz_tree.specs.View.{tree_of}
use Rattle.sz_core.specs.Nodes.{nodes_of}
use Rattle.sz_core.specs.View.{node_of}
use Rattle.sz_check_rules.specs.Agreeing.{agree}
use Rattle.sz_check_expr.specs.Asking.{asks_of}
use Rattle.sz_check_expr.proofs.agreement.agree.Given as goal

abbrev pub invariant-loop-i : goal.invariant-loop-i
invariant-loop-i l =
    agree (asks_of l.asks) (exps_of (map tree_of (drop l.i l.trees))) (nodes_of (map node_of (drop l.i l.nodes)))
    ≡ agree (asks_of l.fn.asks) (exps_of (map tree_of l.trees)) (nodes_of (map node_of l.nodes))

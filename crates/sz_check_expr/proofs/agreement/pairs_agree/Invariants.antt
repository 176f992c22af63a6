-- Those from here on agree exactly where all do.
use Rattle.std.proofs.Common.{◌≡◌, map, drop}
use Rattle.sz_types.specs.Seen.{seen}
use Rattle.sz_tree.specs.Expressions.{pairs_of}
use Rattle.sz_tree.specs.View.{pair_of}
use Rattle.sz_core.specs.Nodes.{pairings_of}
use Rattle.sz_core.specs.View.{pairing_of}
use Rattle.sz_check_rules.specs.Agreeing.{pairs_agree}
use Rattle.sz_check_expr.proofs.agreement.pairs_agree.Given as goal

abbrev pub invariant-loop-i : goal.invariant-loop-i
invariant-loop-i l =
    pairs_agree (seen l.key) (seen l.value) (pairs_of (map pair_of (drop l.i l.trees)))
    (pairings_of (map pairing_of (drop l.i l.nodes)))
    ≡ pairs_agree (seen l.key) (seen l.value) (pairs_of (map pair_of l.trees)) (pairings_of (map pairing_of l.nodes))

-- What is left to append, after what there is now, makes the whole; and what there was stays in front.
use Rattle.std.proofs.Common.{map, drop}
use Rattle.sz_core.specs.Nodes.{nodes_of, pairings_of}
use Rattle.sz_core.specs.View.{node_of, pairing_of}
use Rattle.sz_gen_expr.specs.declared.builder.Builder.{Builder}
use Rattle.sz_gen_expr.specs.Building.{AppendsNodes, AppendsPairings, StillGoesOn}
use Rattle.sz_gen_expr.proofs.expr.+expr.Given as goal

abbrev pub invariant-append_all-loop-e : goal.invariant-append_all-loop-e
invariant-append_all-loop-e l =
    ((new : Builder) → AppendsNodes l.into new (nodes_of (map node_of (drop l.e-index l.es))) → AppendsNodes l.fn.into new (nodes_of (map node_of l.es)))
    × StillGoesOn l.fn.into l.into

abbrev pub invariant-append_pairs-loop-pair : goal.invariant-append_pairs-loop-pair
invariant-append_pairs-loop-pair l =
    ((new : Builder) → AppendsPairings l.into new (pairings_of (map pairing_of (drop l.pair-index l.pairs)))
    → AppendsPairings l.fn.into new (pairings_of (map pairing_of l.pairs)))
    × StillGoesOn l.fn.into l.into

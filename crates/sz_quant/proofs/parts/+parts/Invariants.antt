-- What is made, and the parts that are left, are all that is made.
use Rattle.std.proofs.Common.{◌≡◌, ◌++◌, map}
use Rattle.sz_quant.specs.Seen.{seen_ref}
use Rattle.sz_quant.proofs.TurnLemmas.{parts_from, pair_parts_from}
use Rattle.sz_quant.proofs.parts.+parts.Given as goal

abbrev pub invariant-add_all_parts-loop-tree : goal.invariant-add_all_parts-loop-tree
invariant-add_all_parts-loop-tree l =
    map seen_ref l.made.items ++ parts_from l.trees l.tree-index ≡ map seen_ref l.fn.made.items ++ parts_from l.trees 0

abbrev pub invariant-add_pair_parts-loop-pair : goal.invariant-add_pair_parts-loop-pair
invariant-add_pair_parts-loop-pair l =
    map seen_ref l.made.items ++ pair_parts_from l.pairs l.pair-index ≡ map seen_ref l.fn.made.items
    ++ pair_parts_from l.pairs 0

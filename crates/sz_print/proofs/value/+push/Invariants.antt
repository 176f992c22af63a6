-- The texts of the parts so far were appended.
use Rattle.std.proofs.Common.{◌≡◌, ◌++◌, ◌*◌, ◌+◌, map, take}
use Rattle.sz_value.specs.Code.{datum_nodes, parts_nodes, pairs_nodes}
use Rattle.sz_value.specs.Seen.{seen}
use Rattle.sz_print.specs.Joined.{joined}
use Rattle.sz_print.specs.Text.{value_text, pair_text}
use Rattle.sz_print.proofs.value.+push.Given as goal

abbrev pub invariant-push_parts-loop-at : goal.invariant-push_parts-loop-at
invariant-push_parts-loop-at l =
    l.out.items ≡ l.initial.out.items ++ joined (λ v. value_text (seen v)) (take l.at l.parts)

abbrev pub invariant-push_pairs-loop-place : goal.invariant-push_pairs-loop-place
invariant-push_pairs-loop-place l = l.out.items ≡ l.initial.out.items ++ joined pair_text (take l.place l.pairs)

abbrev pub decreases-push_value : goal.decreases-push_value
decreases-push_value l = 4 * datum_nodes (seen l.value.now)

abbrev pub decreases-push_list : goal.decreases-push_list
decreases-push_list l = 4 * parts_nodes l.list.now + 3

abbrev pub decreases-push_map : goal.decreases-push_map
decreases-push_map l = 4 * pairs_nodes l.pairs.now + 3

abbrev pub decreases-push_parts : goal.decreases-push_parts
decreases-push_parts l = 4 * parts_nodes (map seen l.parts.now) + 2

abbrev pub decreases-push_pairs : goal.decreases-push_pairs
decreases-push_pairs l = 4 * pairs_nodes l.pairs.now + 2

abbrev pub decreases-push_pair : goal.decreases-push_pair
decreases-push_pair l = 4 * (datum_nodes (seen l.pair.now.key) + datum_nodes (seen l.pair.now.value)) + 1

-- What was spelled so far was appended.
use Rattle.std.proofs.Common.{◌*◌, ◌+◌, map, take}
use Rattle.sz_value.specs.Code.{datum_nodes, parts_nodes, pairs_nodes}
use Rattle.sz_value.specs.Seen.{seen}
use Rattle.sz_flat.specs.Reading.{values, pair, all_of, Adds}
use Rattle.sz_flat.proofs.writing.+spell.Given as goal

abbrev pub invariant-spell_parts-loop-part : goal.invariant-spell_parts-loop-part
invariant-spell_parts-loop-part l =
    Adds (all_of values l.part-index) l.initial.out.items l.out.items (map seen (take l.part-index l.parts))

abbrev pub invariant-spell_pairs-loop-place : goal.invariant-spell_pairs-loop-place
invariant-spell_pairs-loop-place l = Adds (all_of pair l.place) l.initial.out.items l.out.items (take l.place l.pairs)

abbrev pub decreases-spell : goal.decreases-spell
decreases-spell l = 3 * datum_nodes (seen l.value.now)

abbrev pub decreases-spell_list : goal.decreases-spell_list
decreases-spell_list l = 3 * parts_nodes l.list.now + 2

abbrev pub decreases-spell_map : goal.decreases-spell_map
decreases-spell_map l = 3 * pairs_nodes l.pairs.now + 2

abbrev pub decreases-spell_parts : goal.decreases-spell_parts
decreases-spell_parts l = 3 * parts_nodes (map seen l.parts.now) + 1

abbrev pub decreases-spell_pairs : goal.decreases-spell_pairs
decreases-spell_pairs l = 3 * pairs_nodes l.pairs.now + 1

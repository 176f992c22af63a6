-- The values so far are read, and the others are still to come.
use Rattle.std.proofs.Common.{◌≡◌, ◌-◌, ◌*◌, ◌+◌, ◌≤◌, max, map, drop}
use Rattle.sz_types.specs.Data.{fields_of}
use Rattle.sz_types.specs.Seen as types
use Rattle.sz_value.specs.Seen.{seen_pairs}
use Rattle.sz_save_format.specs.Types.{height, tallest}
use Rattle.sz_save_format.specs.Decoding.{many_at, counted_at}
use Rattle.sz_save_format.specs.DecodingRows.{pair_at, value_at, parts_at}
use Rattle.sz_save_format.proofs.FrontLemmas.{after}
use Rattle.sz_save_format.proofs.values.+read.Given as goal

abbrev pub invariant-read_elements-loop : goal.invariant-read_elements-loop
invariant-read_elements-loop l =
    (counted_at (value_at (types.seen l.element)) l.flat
    ≡ after l.values (many_at (value_at (types.seen l.element)) (l.count - l.counter) l.rest))
    × (l.counter ≤ l.count)

abbrev pub invariant-read_pairs-loop : goal.invariant-read_pairs-loop
invariant-read_pairs-loop l =
    (counted_at (pair_at (value_at (types.seen l.key)) (value_at (types.seen l.value))) l.flat
    ≡ after (seen_pairs l.pairs.items)
    (many_at (pair_at (value_at (types.seen l.key)) (value_at (types.seen l.value))) (l.count - l.counter) l.rest))
    × (l.counter ≤ l.count)

abbrev pub invariant-read_parts-loop-field : goal.invariant-read_parts-loop-field
invariant-read_parts-loop-field l =
    parts_at (fields_of (map types.seen_field l.fields)) l.flat
    ≡ after l.values (parts_at (fields_of (map types.seen_field (drop l.field-index l.fields))) l.rest)

abbrev pub decreases-read_value : goal.decreases-read_value
decreases-read_value l = 4 * height (types.seen l.ty.now)

abbrev pub decreases-read_array : goal.decreases-read_array
decreases-read_array l = 4 * height (types.seen l.element.now) + 3

abbrev pub decreases-read_elements : goal.decreases-read_elements
decreases-read_elements l = 4 * height (types.seen l.element.now) + 2

abbrev pub decreases-read_tuple : goal.decreases-read_tuple
decreases-read_tuple l = 4 * tallest (fields_of (map types.seen_field l.fields.now)) + 3

abbrev pub decreases-read_parts : goal.decreases-read_parts
decreases-read_parts l = 4 * tallest (fields_of (map types.seen_field l.fields.now)) + 2

abbrev pub decreases-read_map : goal.decreases-read_map
decreases-read_map l = 4 * max (height (types.seen l.key.now)) (height (types.seen l.value.now)) + 3

abbrev pub decreases-read_pairs : goal.decreases-read_pairs
decreases-read_pairs l = 4 * max (height (types.seen l.key.now)) (height (types.seen l.value.now)) + 2

abbrev pub decreases-read_pair : goal.decreases-read_pair
decreases-read_pair l = 4 * max (height (types.seen l.key.now)) (height (types.seen l.value.now)) + 1

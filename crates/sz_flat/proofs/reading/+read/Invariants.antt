-- What was read so far stands in front, and what is left is no longer.
use Rattle.std.proofs.Common.{◌*◌, ◌+◌, ◌≤◌, length, map}
use Rattle.sz_value.specs.Seen.{seen, seen_pair}
use Rattle.sz_flat.specs.Reading.{values, pair, all_of, Stands}
use Rattle.sz_flat.proofs.reading.+read.Given as goal

abbrev pub invariant-read_parts-loop : goal.invariant-read_parts-loop
invariant-read_parts-loop l = Stands (all_of values l.counter) l.flat (map seen l.values.items) l.rest
    × (l.counter ≤ l.count) × (length l.rest ≤ length l.flat)

abbrev pub invariant-read_pairs-loop : goal.invariant-read_pairs-loop
invariant-read_pairs-loop l = Stands (all_of pair l.counter) l.flat (map seen_pair l.pairs.items) l.rest
    × (l.counter ≤ l.count) × (length l.rest ≤ length l.flat)

abbrev pub decreases-read_value : goal.decreases-read_value
decreases-read_value l = 4 * length l.flat.now

abbrev pub decreases-read_array : goal.decreases-read_array
decreases-read_array l = 4 * length l.flat.now + 3

abbrev pub decreases-read_tuple : goal.decreases-read_tuple
decreases-read_tuple l = 4 * length l.flat.now + 3

abbrev pub decreases-read_map : goal.decreases-read_map
decreases-read_map l = 4 * length l.flat.now + 3

abbrev pub decreases-read_parts : goal.decreases-read_parts
decreases-read_parts l = 4 * length l.flat.now + 2

abbrev pub decreases-read_pairs : goal.decreases-read_pairs
decreases-read_pairs l = 4 * length l.flat.now + 2

abbrev pub decreases-read_pair : goal.decreases-read_pair
decreases-read_pair l = 4 * length l.flat.now + 1

-- The fields so far are read, and the others are still to come.
use Rattle.std.proofs.Common.{◌≡◌, ◌-◌, ◌*◌, ◌+◌, ◌≤◌, map}
use Rattle.sz_types.specs.Seen.{seen_field}
use Rattle.sz_save_format.specs.Decoding.{many_at, field_at, fields_at, type_at}
use Rattle.sz_save_format.proofs.FrontLemmas.{after}
use Rattle.sz_save_format.proofs.types.+read.Given as goal

abbrev pub invariant-read_fields-loop : goal.invariant-read_fields-loop
invariant-read_fields-loop l =
    (fields_at l.numbered (type_at l.levels) l.flat
    ≡ after (map seen_field l.fields.items)
    (many_at (field_at l.numbered (type_at l.levels)) (l.count - l.counter) l.rest))
    × (l.counter ≤ l.count)

abbrev pub decreases-read_type : goal.decreases-read_type
decreases-read_type l = 5 * l.levels

abbrev pub decreases-read_type_of : goal.decreases-read_type_of
decreases-read_type_of l = 5 * l.levels + 4

abbrev pub decreases-read_array_type : goal.decreases-read_array_type
decreases-read_array_type l = 5 * l.levels + 3

abbrev pub decreases-read_map_type : goal.decreases-read_map_type
decreases-read_map_type l = 5 * l.levels + 3

abbrev pub decreases-read_tuple_type : goal.decreases-read_tuple_type
decreases-read_tuple_type l = 5 * l.levels + 3

abbrev pub decreases-read_proto_type : goal.decreases-read_proto_type
decreases-read_proto_type l = 5 * l.levels + 3

abbrev pub decreases-read_fields : goal.decreases-read_fields
decreases-read_fields l = 5 * l.levels + 2

abbrev pub decreases-read_field : goal.decreases-read_field
decreases-read_field l = 5 * l.levels + 1

-- The fields so far were appended.
use Rattle.std.proofs.Common.{◌≡◌, ◌++◌, ◌*◌, ◌+◌, map, take, flat_map}
use Rattle.sz_types.specs.Data.{fields_of}
use Rattle.sz_types.specs.Seen.{seen, seen_field}
use Rattle.sz_save_format.specs.Types.{height, tallest}
use Rattle.sz_save_format.specs.Fields.{field_bytes}
use Rattle.sz_save_format.proofs.put.+put.Given as goal

abbrev pub invariant-put_each_field-loop-field : goal.invariant-put_each_field-loop-field
invariant-put_each_field-loop-field l = l.out.items
    ≡ l.initial.out.items ++ flat_map (field_bytes l.numbered) (map seen_field (take l.field-index l.fields))

abbrev pub decreases-put_type : goal.decreases-put_type
decreases-put_type l = 4 * height (seen l.ty.now)

abbrev pub decreases-put_fields : goal.decreases-put_fields
decreases-put_fields l = 4 * tallest (fields_of (map seen_field l.fields.now)) + 3

abbrev pub decreases-put_each_field : goal.decreases-put_each_field
decreases-put_each_field l = 4 * tallest (fields_of (map seen_field l.fields.now)) + 2

abbrev pub decreases-put_field : goal.decreases-put_field
decreases-put_field l = 4 * height (seen l.field.now.ty) + 1

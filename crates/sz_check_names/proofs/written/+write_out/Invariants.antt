-- What is written out so far is the front; and a name goes on among the types before it.
use Rattle.std.proofs.Common.{◌≡◌, ◌+◌, ◌*◌, suc, map, take}
use Rattle.sz_types.specs.Seen.{seen_field}
use Rattle.sz_check_names.specs.declared.written.Written.{size-Written}
use Rattle.sz_check_names.specs.Written.{shapes_of, field_in}
use Rattle.sz_check_names.proofs.WrittenLemmas.{depths}
use Rattle.sz_check_names.proofs.written.+write_out.Given as goal

abbrev pub invariant-write_out_fields-loop-field : goal.invariant-write_out_fields-loop-field
invariant-write_out_fields-loop-field l =
    map seen_field l.stored.items ≡ map (field_in (shapes_of l.types)) (take l.field-index l.fields)

abbrev pub decreases-write_out : goal.decreases-write_out
decreases-write_out l = 2 * (size-Written l.written.now + depths l.types.now)

abbrev pub decreases-write_out_fields : goal.decreases-write_out_fields
decreases-write_out_fields l = 2 * (goal.size-write_out_fields l + depths l.types.now)

-- a part is written out as a type, and then moved to the heap
abbrev pub decreases-write_out_part : goal.decreases-write_out_part
decreases-write_out_part l = suc (2 * (size-Written l.written.now + depths l.types.now))

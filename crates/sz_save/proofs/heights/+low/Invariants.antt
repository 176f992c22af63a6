-- The types so far are low.
use Rattle.std.proofs.Common.{◌≡◌, ◌*◌, ◌+◌, drop, map}
use Rattle.std.specs.Prelude.{nat_le}
use Rattle.sz_types.specs.Data.{fields_of}
use Rattle.sz_types.specs.Seen.{seen_field}
use Rattle.sz_save_format.specs.Types.{tallest}
use Rattle.sz_save.proofs.heights.+low.Given as goal

abbrev pub invariant-are_fields_low-loop-field : goal.invariant-are_fields_low-loop-field
invariant-are_fields_low-loop-field l =
    nat_le (tallest (fields_of (map seen_field (drop l.field-index l.fields)))) l.most
    ≡ nat_le (tallest (fields_of (map seen_field l.fields))) l.most

abbrev pub decreases-is_type_low : goal.decreases-is_type_low
decreases-is_type_low l = 2 * l.most

abbrev pub decreases-are_fields_low : goal.decreases-are_fields_low
decreases-are_fields_low l = 2 * l.most + 1

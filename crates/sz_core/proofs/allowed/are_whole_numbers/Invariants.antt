-- Those from here on are whole numbers exactly where all are.
use Rattle.std.proofs.Common.{◌≡◌, map, drop}
use Rattle.sz_types.specs.Data.{fields_of}
use Rattle.sz_types.specs.Seen.{seen_field}
use Rattle.sz_core.specs.WellFormed.{are_whole_numbers}
use Rattle.sz_core.proofs.allowed.are_whole_numbers.Given as goal

abbrev pub invariant-loop-field : goal.invariant-loop-field
invariant-loop-field l = are_whole_numbers (fields_of (map seen_field (drop l.field-index l.fields)))
    ≡ are_whole_numbers (fields_of (map seen_field l.fields))

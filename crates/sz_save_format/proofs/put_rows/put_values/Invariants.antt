-- The values so far were appended.
use Rattle.std.proofs.Common.{◌≡◌, ◌++◌, map, take, flat_map}
use Rattle.sz_value.specs.Seen.{seen}
use Rattle.sz_save_format.specs.Entries.{value_bytes}
use Rattle.sz_save_format.proofs.put_rows.put_values.Given as goal

abbrev pub invariant-loop-value : goal.invariant-loop-value
invariant-loop-value l =
    l.out.items ≡ l.initial.out.items ++ flat_map value_bytes (map seen (take l.value-index l.values))

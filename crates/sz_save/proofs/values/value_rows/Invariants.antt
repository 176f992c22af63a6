-- There is a row for each value so far.
use Rattle.std.proofs.Common.{◌≡◌, map}
use Rattle.sz_value.specs.Seen.{seen}
use Rattle.sz_tabs.specs.Rows.{value_row}
use Rattle.sz_save.proofs.values.value_rows.Given as goal

abbrev pub invariant-loop-value : goal.invariant-loop-value
invariant-loop-value l = l.rows ≡ map value_row (map seen l.yielded)

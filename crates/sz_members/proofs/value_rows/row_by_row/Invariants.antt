-- There is a row for each value so far.
use Rattle.std.proofs.Common.{◌≡◌, map}
use Rattle.sz_tabs.specs.Rows.{value_row}
use Rattle.sz_members.specs.Showing.{seen_ref}
use Rattle.sz_members.proofs.value_rows.row_by_row.Given as goal

abbrev pub invariant-loop-value : goal.invariant-loop-value
invariant-loop-value l = l.rows ≡ map value_row (map seen_ref l.yielded)

-- There is a row for each value and weight so far.
use Rattle.std.proofs.Common.{◌≡◌, map}
use Rattle.sz_tabs.specs.Rows.{weighted_row}
use Rattle.sz_tabs.specs.SeenKept.{seen_least}
use Rattle.sz_tabs.proofs.plain_rows.rows_by_least.Given as goal

abbrev pub invariant-loop-weight : goal.invariant-loop-weight
invariant-loop-weight l = l.rows ≡ map weighted_row (map seen_least l.yielded)

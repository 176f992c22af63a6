-- The total has the tables of the test, and took no more than the emits so far.
use Rattle.std.proofs.Common.{◌≡◌, ◌≤◌}
use Rattle.sz_tables_tests.proofs.printing.text_after.Given as goal

abbrev pub invariant-loop-table : goal.invariant-loop-table
invariant-loop-table l = (l.total.tables ≡ l.tables) × (l.total.count ≤ l.table-index)

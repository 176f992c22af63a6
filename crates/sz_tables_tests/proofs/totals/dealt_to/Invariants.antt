-- The total has the tables of the test, and took no more than what was dealt so far.
use Rattle.std.proofs.Common.{◌≡◌, ◌≤◌}
use Rattle.sz_tables_tests.proofs.totals.dealt_to.Given as goal

abbrev pub invariant-loop-one : goal.invariant-loop-one
invariant-loop-one l = (l.total.tables ≡ l.tables) × (l.total.count ≤ l.one-index)

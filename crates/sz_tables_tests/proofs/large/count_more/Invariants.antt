-- The total has the tables of the test, and took no more than the numbers so far.
use Rattle.std.proofs.Common.{◌≡◌, ◌≤◌, ◌+◌}
use Rattle.sz_tables_tests.proofs.large.count_more.Given as goal

abbrev pub invariant-loop-at : goal.invariant-loop-at
invariant-loop-at l = (l.total.tables ≡ l.tables) × (l.total.count ≤ l.initial.total.count + l.at)

-- The aggregator has the table, and took no more than what was dealt so far.
use Rattle.std.proofs.Common.{◌≡◌, ◌≤◌}
use Rattle.sz_types.specs.SeenTables.{seen_table}
use Rattle.sz_tables_tests.proofs.totals.rows_under.Given as goal

abbrev pub invariant-loop-one : goal.invariant-loop-one
invariant-loop-one g l =
    (g.A.Aggregator.declaration l.plain ≡ seen_table l.table) × (g.A.Aggregator.count l.plain ≤ l.one-index)

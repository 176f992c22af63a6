-- The aggregator has the table, and took no more than the numbers so far.
use Rattle.std.proofs.Common.{◌≡◌, ◌≤◌, ◌+◌}
use Rattle.sz_types.specs.SeenTables.{seen_table}
use Rattle.sz_tables_tests.proofs.large.filled.Given as goal

abbrev pub invariant-loop-at : goal.invariant-loop-at
invariant-loop-at g l =
    (g.A.Aggregator.declaration l.aggregate ≡ seen_table l.table)
    × (g.A.Aggregator.count l.aggregate ≤ g.A.Aggregator.count l.fn.aggregate + l.at)

-- All sides have the table of the first, and each was dealt no more than what was dealt so far.
use Rattle.std.proofs.Common.{◌≡◌, ◌≤◌}
use Rattle.sz_tables_tests.proofs.dealing.merged_rows.Given as goal

abbrev pub invariant-loop-number : goal.invariant-loop-number
invariant-loop-number g l =
    (g.A.Aggregator.declaration l.first ≡ g.A.Aggregator.declaration l.fn.first)
    × (g.A.Aggregator.declaration l.second ≡ g.A.Aggregator.declaration l.fn.first)
    × (g.A.Aggregator.declaration l.third ≡ g.A.Aggregator.declaration l.fn.first)
    × (g.A.Aggregator.count l.first ≤ l.number-index)
    × (g.A.Aggregator.count l.second ≤ l.number-index)
    × (g.A.Aggregator.count l.third ≤ l.number-index)

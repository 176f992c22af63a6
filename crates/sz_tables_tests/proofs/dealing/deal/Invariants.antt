-- The generator stays in its range.
use Rattle.std.proofs.Common.{◌≤◌}
use Rattle.sz_tables_tests.proofs.dealing.deal.Given as goal

abbrev pub invariant-loop : goal.invariant-loop
invariant-loop l = l.state ≤ 65536

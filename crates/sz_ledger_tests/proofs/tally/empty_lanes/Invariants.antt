use Rattle.std.proofs.Common.{◌≡◌, length}
use Rattle.sz_claims.specs.Known.{AreEmpty}
use Rattle.sz_ledger_tests.proofs.tally.empty_lanes.Given as goal

abbrev pub invariant-loop : goal.invariant-loop
invariant-loop l = AreEmpty l.plan l.lanes.items × (length l.lanes.items ≡ l.counter)

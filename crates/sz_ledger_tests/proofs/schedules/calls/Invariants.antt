use Rattle.sz_ledger_tests.specs.Keeping.{KeepsPlace}
use Rattle.sz_ledger_tests.specs.Ready.{IsReady}
use Rattle.sz_ledger_tests.proofs.schedules.calls.Given as goal

abbrev pub invariant-loop : goal.invariant-loop
invariant-loop l = KeepsPlace l.initial.a l.a × KeepsPlace l.initial.b l.b × IsReady l.at_a l.a × IsReady l.at_b l.b

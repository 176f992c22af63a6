use Rattle.sz_ledger_tests.specs.Keeping.{KeepsPlace}
use Rattle.sz_ledger_tests.proofs.claims_threads.work.Given as goal

abbrev pub invariant-loop : goal.invariant-loop
invariant-loop l = KeepsPlace l.initial.pass l.pass

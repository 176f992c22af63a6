use Rattle.sz_claims.proofs.ForCallers.{has_drawn_now}
use Rattle.sz_ledger_tests.proofs.schedules.draws.Goals as goal

pub returns-in-Some-clause-ready : goal.returns-in-Some-clause-ready
returns-in-Some-clause-ready c = has_drawn_now _ _ _ c.in-Some.ensures.call

use Rattle.sz_claims.proofs.ForCallers.{has_drawn_still}
use Rattle.sz_ledger_tests.proofs.schedules.dies.Goals as goal

pub returns-clause-ready : goal.returns-clause-ready
returns-clause-ready c = has_drawn_still _ _ _ _ _ c.died.ensures.call c.requires.drew

use Rattle.sz_claims.proofs.ForCallers.{has_drawn_still, has_number_now}
use Rattle.sz_ledger_tests.proofs.schedules.numbers.Goals as goal

pub returns-in-Some-clause-ready : goal.returns-in-Some-clause-ready
returns-in-Some-clause-ready c =
    (has_drawn_still _ _ _ _ _ c.in-Some.ensures.call c.requires.drew, has_number_now _ _ _ _ c.in-Some.ensures.call)

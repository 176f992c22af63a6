use Rattle.sz_workers.proofs.OrderLemmas as orders
use Rattle.sz_workers.proofs.loop_laws.orderly_callers_are_orderly.Goals as goal

pub returns : goal.returns
returns c = record { orderly = orders.orderly_callers }

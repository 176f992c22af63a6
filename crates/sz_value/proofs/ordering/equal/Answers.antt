-- What was compared as equal is the same, and the other way round.
use Rattle.sz_value.proofs.OrderLemmas.{equal_means_same}
use Rattle.sz_value.proofs.ordering.equal.Goals as goal

pub returns : goal.returns
returns c = record { value = rw c.is_eq.ensures (equal_means_same _ _ c.order.result c.order.ensures.value) }

-- The law is that of how states are joined.
use Rattle.sz_merge.proofs.TogetherLemmas.{one_together}
use Rattle.sz_merge.proofs.laws.merging_forgets_the_order.Goals as goal

pub returns : goal.returns
returns c = record { law = one_together c.joining_forgets_the_order.ensures.all }

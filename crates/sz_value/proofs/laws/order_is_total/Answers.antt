-- The law is proved beside the definition of the order.
use Rattle.sz_value.specs.Total.{compare_total}
use Rattle.sz_value.proofs.laws.order_is_total.Goals as goal

pub returns : goal.returns
returns c = record { total = compare_total }

-- The law is proved beside the definition of the order.
use Rattle.sz_value.specs.Total.{compare_ties, compare_itself}
use Rattle.sz_value.proofs.laws.ties_are_equal.Goals as goal

pub returns : goal.returns
returns c = record { ties = λ first second. (compare_ties first second, compare_itself first second) }

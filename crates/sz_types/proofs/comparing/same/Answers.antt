-- Types that are alike are equal.
use Rattle.sz_types.proofs.AlikeLemmas.{alike_is_equality}
use Rattle.sz_types.proofs.comparing.same.Goals as goal

pub returns : goal.returns
returns c = record { value = rw c.types_agree.ensures.value (alike_is_equality _ _) }

-- The law is proved with the lemmas on types that are alike.
use Rattle.sz_types.proofs.AlikeLemmas.{alike_is_equality}
use Rattle.sz_types.proofs.laws.alike_is_equal.Goals as goal

pub returns : goal.returns
returns c = record { value = alike_is_equality }

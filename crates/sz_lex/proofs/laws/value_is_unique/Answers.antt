use Rattle.sz_lex.proofs.LawLemmas.{one_value}
use Rattle.sz_lex.proofs.laws.value_is_unique.Goals as goal

pub returns : goal.returns
returns c = one_value

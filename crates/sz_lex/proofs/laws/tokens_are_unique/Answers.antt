use Rattle.sz_lex.proofs.LawLemmas.{one_list}
use Rattle.sz_lex.proofs.laws.tokens_are_unique.Goals as goal

pub returns : goal.returns
returns c = one_list

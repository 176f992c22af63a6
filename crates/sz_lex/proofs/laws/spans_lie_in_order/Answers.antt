use Rattle.sz_lex.proofs.LawLemmas.{spans_in_order}
use Rattle.sz_lex.proofs.laws.spans_lie_in_order.Goals as goal

pub returns : goal.returns
returns c = spans_in_order

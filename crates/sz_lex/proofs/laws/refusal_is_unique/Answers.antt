use Rattle.sz_lex.proofs.LawLemmas.{no_refusal, one_refusal}
use Rattle.sz_lex.proofs.laws.refusal_is_unique.Goals as goal

pub returns : goal.returns
returns c = record { none = no_refusal; one = one_refusal }

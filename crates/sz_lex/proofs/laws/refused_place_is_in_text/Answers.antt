use Rattle.sz_lex.proofs.LawLemmas.{refused_in_text}
use Rattle.sz_lex.proofs.laws.refused_place_is_in_text.Goals as goal

pub returns : goal.returns
returns c = refused_in_text

use Rattle.sz_lex.proofs.TotalLemmas.{every_text_is_read}
use Rattle.sz_lex.proofs.laws.every_text_is_read.Goals as goal

pub returns : goal.returns
returns c = every_text_is_read

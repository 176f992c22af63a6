use Rattle.sz_lex.proofs.ApartLemmas.{written_apart, blanks_mean_nothing}
use Rattle.sz_lex.proofs.laws.blanks_mean_nothing.Goals as goal

pub returns : goal.returns
returns c = record { read = written_apart; same = blanks_mean_nothing }

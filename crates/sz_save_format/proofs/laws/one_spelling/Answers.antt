-- The law is a lemma.
use Rattle.sz_save_format.proofs.SavedLemmas.{one_spelling}
use Rattle.sz_save_format.proofs.laws.one_spelling.Goals as goal

pub returns : goal.returns
returns c = record { law = one_spelling }

-- The law is a lemma.
use Rattle.sz_journal.proofs.JournalLemmas.{one_standing}
use Rattle.sz_journal.proofs.laws.one_standing.Goals as goal

pub returns : goal.returns
returns c = record { law = one_standing }

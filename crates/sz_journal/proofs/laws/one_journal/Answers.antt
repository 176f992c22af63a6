-- The law is a lemma.
use Rattle.sz_journal.proofs.JournalLemmas.{one_journal}
use Rattle.sz_journal.proofs.laws.one_journal.Goals as goal

pub returns : goal.returns
returns c = record { law = one_journal }

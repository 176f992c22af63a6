-- The law is a lemma.
use Rattle.sz_journal.proofs.EntryRoundLemmas.{one_round}
use Rattle.sz_journal.proofs.entry_laws.one_round.Goals as goal

pub returns : goal.returns
returns c = record { law = one_round }

-- The law is a lemma.
use Rattle.sz_journal.proofs.JobLemmas.{one_job}
use Rattle.sz_journal.proofs.entry_laws.one_job.Goals as goal

pub returns : goal.returns
returns c = record { law = one_job }

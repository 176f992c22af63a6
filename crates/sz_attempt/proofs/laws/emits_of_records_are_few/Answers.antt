use Rattle.sz_attempt.proofs.MeansLemmas.{few_emits}
use Rattle.sz_attempt.proofs.laws.emits_of_records_are_few.Goals as goal

pub returns : goal.returns
returns c = record { few = few_emits }

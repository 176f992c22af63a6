use Rattle.sz_workers.proofs.LawLemmas.{all_emits}
use Rattle.sz_workers.proofs.round_laws.emits_of_shards_are_those_of_all_records.Goals as goal

pub returns : goal.returns
returns c = record { whole = all_emits }

use Rattle.sz_workers.proofs.LawLemmas.{is_outcome}
use Rattle.sz_workers.proofs.round_laws.the_first_shard_decides.Goals as goal

pub returns : goal.returns
returns c = record { first = is_outcome }

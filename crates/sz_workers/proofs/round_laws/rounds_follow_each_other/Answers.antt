use Rattle.sz_workers.proofs.OutcomeLemmas.{outcome-append}
use Rattle.sz_workers.proofs.round_laws.rounds_follow_each_other.Goals as goal

pub returns : goal.returns
returns c = record { joined = outcome-append }

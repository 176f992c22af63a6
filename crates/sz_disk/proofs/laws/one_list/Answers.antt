-- The law is a lemma.
use Rattle.sz_disk.proofs.ChainLemmas.{one_list}
use Rattle.sz_disk.proofs.laws.one_list.Goals as goal

pub returns : goal.returns
returns c = record { law = one_list }

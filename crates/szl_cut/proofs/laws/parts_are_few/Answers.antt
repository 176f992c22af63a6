use Rattle.szl_cut.proofs.PartLemmas.{parts_few}
use Rattle.szl_cut.proofs.laws.parts_are_few.Goals as goal

pub returns : goal.returns
returns c = record { few = parts_few }

use Rattle.szl_cut.proofs.PartLemmas.{parts_hold}
use Rattle.szl_cut.proofs.laws.parts_hold_the_records.Goals as goal

pub returns : goal.returns
returns c = record { hold = parts_hold }

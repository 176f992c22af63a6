-- Each number of the example is looked at.
use Rattle.sz_instr.proofs.WellFormedLemmas.{example_is_well_formed}
use Rattle.sz_instr.proofs.laws.the_example_is_well_formed.Goals as goal

pub returns : goal.returns
returns c = record { value = example_is_well_formed }

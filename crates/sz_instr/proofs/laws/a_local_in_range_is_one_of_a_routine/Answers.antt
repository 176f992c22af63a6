-- What is below the greatest of a list is below one of it.
use Rattle.sz_instr.proofs.WellFormedLemmas.{local_of_a_routine}
use Rattle.sz_instr.proofs.laws.a_local_in_range_is_one_of_a_routine.Goals as goal

pub returns : goal.returns
returns c = record { value = local_of_a_routine }

-- What the crates above may cite.
pub use Rattle.sz_instr.proofs.WellFormedLemmas.{well_formed_by_list, most_locals_by_list, local_of_a_routine, routines_in_range, line_in_range}

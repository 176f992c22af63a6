-- A part of the data is the data of the part.
use Rattle.sz_builtin.proofs.Parts.{array_cut}
use Rattle.sz_builtin.proofs.slicing.part_of_list.Goals as goal

pub returns-in_ok-copies-in-Some : goal.returns-in_ok-copies-in-Some
returns-in_ok-copies-in-Some c = record {
  value = array_cut _ _ _ _ c.in-Some.ensures.some c.in_ok-copies-in-Some.ensures.value;
}

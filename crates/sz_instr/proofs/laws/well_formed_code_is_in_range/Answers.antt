-- All lines pass, so the one at the place does; and so do all routines.
use Rattle.sz_instr.proofs.WellFormedLemmas.{line_in_range, routines_in_range}
use Rattle.sz_instr.proofs.laws.well_formed_code_is_in_range.Goals as goal

pub returns : goal.returns
returns c = record { lines = λ code at line formed. line_in_range code formed at line; routines = routines_in_range }

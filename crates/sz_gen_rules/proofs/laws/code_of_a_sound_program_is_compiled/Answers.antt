-- What simulates, and what is in range, together.
use Rattle.sz_gen_rules.proofs.Compilation.{compiled}
use Rattle.sz_gen_rules.proofs.laws.code_of_a_sound_program_is_compiled.Goals as goal

pub returns : goal.returns
returns c = record { value = compiled }

-- The law is the soundness of programs that are judged.
use Rattle.sz_check_rules.proofs.ProgramSound.{program_sound, program_with_sound}
use Rattle.sz_check_rules.proofs.laws.judged_programs_are_sound.Goals as goal

pub returns : goal.returns
returns c = record {
  value = λ tree program judged. (program_sound tree).holds program judged;
  with_types = λ types formed tree program judged. (program_with_sound types formed tree).holds program judged;
}

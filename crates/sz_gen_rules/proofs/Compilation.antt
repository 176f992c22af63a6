-- The code of a sound program is the program compiled.
use Rattle.sz_core.specs.Sound.{IsSound}
use Rattle.sz_instr.specs.declared.code.Code.{Code}
use Rattle.sz_mean.specs.Marked.{Marked}
use Rattle.sz_gen_rules.specs.ProgramCode.{IsCodeOf}
use Rattle.sz_gen_rules.specs.Compiled.{IsCompiled}
use Rattle.sz_gen_rules.proofs.Simulation.{simulates, statics_fit}
use Rattle.sz_gen_rules.proofs.CodeInRange.{code_well_formed}

pub compiled : (program : Marked) (code : Code) → IsSound program.core → IsCodeOf program code → IsCompiled program code
compiled program code sound is = record {
  simulates = simulates program code sound is;
  formed = code_well_formed program code sound is;
  tables = is.tables;
  statics_fit = statics_fit program code sound is;
}

use Rattle.sz_instr.proofs.EmitsFit.{emits_fit}
use Rattle.sz_instr.proofs.run_laws.a_run_emits_what_fits.Goals as goal

pub returns : goal.returns
returns c = record { fit = emits_fit }

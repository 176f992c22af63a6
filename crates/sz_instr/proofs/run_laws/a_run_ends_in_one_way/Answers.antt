use Rattle.sz_instr.proofs.OneEnd.{runs_to_one, statics_to_one}
use Rattle.sz_instr.proofs.run_laws.a_run_ends_in_one_way.Goals as goal

pub returns : goal.returns
returns c = record { one = runs_to_one; statics = statics_to_one }

-- The runs of the statics end after some number of lines each.
use Rattle.sz_machine.proofs.LineLemmas.{statics_lines}
use Rattle.sz_machine.proofs.code_run.run_statics.Goals as goal

pub invariant_of-asked : goal.invariant_of-asked
invariant_of-asked c = record { lines = statics_lines c.args.code.now c.args.budget c.requires.ends }

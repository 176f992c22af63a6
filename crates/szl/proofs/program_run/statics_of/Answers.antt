use Rattle.szl.proofs.RunningLemmas.{statics_run_ends, statics_have_types}
use Rattle.szl.proofs.program_run.statics_of.Goals as goal

-- the code of the statics ends
pub run_statics-requires-clause-ends : goal.run_statics-requires-clause-ends
run_statics-requires-clause-ends c =
    statics_run_ends c.args.compiled.now c.code.result.now c.code.ensures.value c.args.budget c.requires.least c.requires.most

-- the slots are those that the program means, so that they have their types
pub returns-in-Done-clause-fit : goal.returns-in-Done-clause-fit
returns-in-Done-clause-fit c =
    statics_have_types c.args.compiled.now c.code.result.now c.code.ensures.value c.args.budget c.requires.least c.requires.most
    c.in_ok-slots.field-0 c.in-Done.slots c.in_ok-slots.ensures.value c.in-Done.is

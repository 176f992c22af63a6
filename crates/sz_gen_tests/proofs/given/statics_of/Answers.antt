use Rattle.std.proofs.Common.{ap, ◌∙◌}
use Rattle.std.specs.Prelude.{Ok}
use Rattle.sz_gen_tests.proofs.GivenLemmas.{statics_run_ends, statics_have_types}
use Rattle.sz_gen_tests.proofs.given.statics_of.Goals as goal

-- the code of the statics ends
pub run_statics-requires-clause-ends : goal.run_statics-requires-clause-ends
run_statics-requires-clause-ends c = statics_run_ends c.args.compiled.now c.code.result.now c.code.ensures.value

-- the slots are those that the program means
pub returns-in-Ok-Done : goal.returns-in-Ok-Done
returns-in-Ok-Done c = record {
  fit = statics_have_types c.args.compiled.now c.code.result.now c.code.ensures.value c.run_statics.result
      c.in-Ok-Done.slots c.run_statics.ensures.value (c.in-Ok-Done.is ∙ ap Ok c.in-Ok-Done.field-0-is);
}

use Rattle.sz_stream.proofs.ReachLemmas.{goes_behind}
use Rattle.sz_stream.proofs.intake.Intake.move_on.Goals as goal

-- all is known after the round that was known before it
pub returns-clause-goes_on : goal.returns-clause-goes_on
returns-clause-goes_on c = rw (c.clear.ensures.value, c.truncate.ensures.value, c.len.ensures.value)
    (goes_behind c.args.self.now c.args.passed)

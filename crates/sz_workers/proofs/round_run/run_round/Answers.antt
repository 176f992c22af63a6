use Rattle.sz_workers.proofs.StartLemmas.{is_set}
use Rattle.sz_workers.proofs.round_run.run_round.Goals as goal

pub run_named-requires-clause-set : goal.run_named-requires-clause-set
run_named-requires-clause-set g c κs within =
    is_set c.args.job.now c.args.round.now c.in_ok-plan.plan c.requires.job c.requires.round c.requires.passed
    c.requires.attempts c.in_ok-plan.ensures.value

use Rattle.std.proofs.Common.{sym, subst}
use Rattle.sz_stream.specs.InputRuns.{RunsRound}
use Rattle.sz_stream.proofs.RunLemmas.{few_left, closed_within, few_numbers, is_round, has_room}
use Rattle.sz_stream.proofs.ReachLemmas.{runs_round}
use Rattle.sz_stream.proofs.input_run.run_next.Goals as goal

-- the shards at hand are a round
pub run_at_hand-requires-clause-round : goal.run_at_hand-requires-clause-round
run_at_hand-requires-clause-round g c κs within =
    let can = c.requires.can_run in
    let r = can.has_round in
    is_round r.done c.args.job.now r.frame r.most c.args.intake.now can.emits r.read r.over r.running

-- there is room for its emits
pub merge-requires-clause-room : goal.merge-requires-clause-room
merge-requires-clause-room g c κs within =
    let can = c.requires.can_run in
    let r = can.has_round in
    let gives = c.in_ok-part.ensures.value in
    has_room r.done c.args.job.now r.frame r.most c.args.intake.now can.emits r.read r.over r.running gives.0
    c.in_ok-part.passed gives.1 c.args.total.now c.in_ok-part.part can.stand gives.2 c.requires.job

-- it has a place after it
pub move_on-requires-clause-within : goal.move_on-requires-clause-within
move_on-requires-clause-within g c =
    let can = c.requires.can_run in
    let r = can.has_round in
    closed_within r.done c.args.job.now r.frame r.most c.args.intake.now can.emits r.read r.over r.running

pub move_on-requires-clause-few : goal.move_on-requires-clause-few
move_on-requires-clause-few g c =
    let can = c.requires.can_run in
    let r = can.has_round in
    few_left r.done c.args.job.now r.frame r.most c.args.intake.now can.emits r.read r.over r.running

pub move_on-requires-clause-numbers : goal.move_on-requires-clause-numbers
move_on-requires-clause-numbers g c =
    let can = c.requires.can_run in
    let r = can.has_round in
    few_numbers r.done c.args.job.now r.frame r.most c.args.intake.now can.emits r.read r.over r.running

-- none of its shards decides
pub returns-clause-ok : goal.returns-clause-ok
returns-clause-ok g c =
    let job = c.args.job.now in
    let gives = c.in_ok-part.ensures.value in
    subst (λ new. RunsRound job c.args.intake.now new c.args.total.now c.merge.new.total) (sym c.move_on.ensures.value)
    (runs_round job c.args.intake.now c.args.total.now c.in_ok-part.part c.merge.new.total gives.0 c.in_ok-part.passed
    c.requires.can_run gives.1 gives.2 c.in_ok-merge.ensures.ok)

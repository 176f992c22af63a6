use Rattle.std.proofs.Common.{arith}
use Rattle.std.proofs.lemmas.Result.{err_from_is_err_and}
use Rattle.sz_check_names.specs.Knowledge.{scene_of}
use Rattle.sz_check.specs.Targets.{target_seen}
use Rattle.sz_check.proofs.StatementLoops.{steps_fail, steps_go, steps_end}
use Rattle.sz_check.proofs.target.judge_steps.Goals as goal

pub returns-in_err-next : goal.returns-in_err-next
returns-in_err-next c =
    let p = err_from_is_err_and c.from_residual.result c.from_residual.ensures.1 in
    record {
      value = rw (p.1, p.2) (steps_fail (scene_of c.args.known.now) c.args.place
          (target_seen c.loop-step.target) c.args.steps.now c.loop-step.step-index c.step-item.result
          c.in_err-next.field-0.0 _ (omega arith) c.step-item.is c.in_err-next.ensures.value c.loop-step.invariant);
    }

pub loop-step-preserved : goal.loop-step-preserved
loop-step-preserved c =
    steps_go (scene_of c.args.known.now) c.args.place (target_seen c.loop-step.target)
    (target_seen c.in_ok-next.next) c.args.steps.now c.loop-step.step-index c.step-item.result _
    (omega arith) c.step-item.is c.in_ok-next.ensures.value c.loop-step.invariant

pub returns : goal.returns
returns c = record {
  value = steps_end (scene_of c.args.known.now) c.args.place (target_seen c.loop-step.target)
      c.args.steps.now c.loop-step.step-index _ (omega arith) c.loop-step.invariant;
}

use Rattle.std.proofs.Common.{sym, ◌∙◌, arith}
use Rattle.sz_check_names.specs.Knowledge.{blocks_of}
use Rattle.sz_check_rules.specs.EmittingTrees.{emits_by}
use Rattle.sz_check_emits.specs.Hidden.{hidden_of}
use Rattle.sz_check_emits.proofs.EmitLemmas.{steps_turn, holds_whole, rest_decides}
use Rattle.sz_check_emits.proofs.emitting.steps_emit.Goals as goal

pub returns-then-step_emits : goal.returns-then-step_emits
returns-then-step_emits c =
    let turn = steps_turn (emits_by (blocks_of c.args.known.now))
    (hidden_of c.args.hidden.now) c.args.steps.now c.loop-step.step-index c.step-item.result
    (omega arith) c.step-item.is in
    record {
      value = holds_whole _ _ _ (sym turn ∙ c.loop-step.invariant)
          (sym c.step_emits.ensures.value ∙ c.if-step_emits.true);
    }

pub loop-step-preserved : goal.loop-step-preserved
loop-step-preserved c =
    let turn = steps_turn (emits_by (blocks_of c.args.known.now))
    (hidden_of c.args.hidden.now) c.args.steps.now c.loop-step.step-index c.step-item.result
    (omega arith) c.step-item.is in
    rest_decides _ _ _ (sym turn ∙ c.loop-step.invariant) (sym c.step_emits.ensures.value ∙ c.if-step_emits.false)

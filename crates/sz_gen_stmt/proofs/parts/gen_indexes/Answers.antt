use Rattle.std.proofs.Common.{◌∙◌, ◌∷◌, ◌+◌, sym, ap, subst, map, drop}
use Rattle.sz_core.specs.declared.stmt.CoreStep.{CoreStep}
use Rattle.sz_core.specs.View.{step_of}
use Rattle.sz_gen_expr.proofs.Builds.{none, after}
use Rattle.sz_types.proofs.ForCallers.{rest_more, rest_none}
use Rattle.sz_gen_stmt.specs.Making.{AppendsIndexes}
use Rattle.sz_gen_stmt.proofs.parts.gen_indexes.Goals as goal

-- an index
pub loop-step-preserved : goal.loop-step-preserved
loop-step-preserved c = λ new h.
    c.loop-step.invariant new (subst (AppendsIndexes c.loop-step.into new)
    (sym
    (rest_more step_of c.args.path.now c.loop-step.step-index c.step-item.result c.loop-step-test.true c.step-item.is
    ∙ ap (λ (x : CoreStep). step_of x ∷ map step_of (drop (c.loop-step.step-index + 1) c.args.path.now)) c.in-Index.is))
    (after c.in_ok-gen_expr.ensures.made h))

-- a field
pub loop-step-preserved-in_default : goal.loop-step-preserved-in_default
loop-step-preserved-in_default c = λ new h.
    c.loop-step.invariant new (subst (AppendsIndexes c.loop-step.into new)
    (sym
    (rest_more step_of c.args.path.now c.loop-step.step-index c.step-item.result c.loop-step-test.true c.step-item.is
    ∙ ap (λ (x : CoreStep). step_of x ∷ map step_of (drop (c.loop-step.step-index + 1) c.args.path.now))
    c.in_default.is)) h)

pub returns : goal.returns
returns c = record {
  made = c.loop-step.invariant c.loop-step.into (subst (AppendsIndexes c.loop-step.into c.loop-step.into)
      (sym (rest_none step_of c.args.path.now c.loop-step.step-index c.loop-step-test.false)) (none c.loop-step.into));
}

use Rattle.std.proofs.lemmas.Result.{IfOk-weaker}
use Rattle.sz_wire.proofs.GroupLemmas.{group_without_key, group_without_end, group_ends, group_of_another}
use Rattle.sz_wire.proofs.GroupLemmas.{group_without_value, group_goes_on, value_of_group, at_err}
use Rattle.sz_wire.proofs.group.+group.Goals as goal

pub after_group-returns-in_err-inner-clause-bad : goal.after_group-returns-in_err-inner-clause-bad
after_group-returns-in_err-inner-clause-bad t c =
    λ turns le. at_err c.from_residual.result
    (group_without_key c.loop-place.invariant.0 c.in_err-inner.ensures.bad turns le)

pub after_group-returns-then-inner-number-clause-found : goal.after_group-returns-then-inner-number-clause-found
after_group-returns-then-inner-number-clause-found t c =
    group_ends c.loop-place.invariant.0 c.loop-place-test.true _ _ _ c.in_ok-inner.ensures.found
    c.in_ok-inner.ensures.forward c.if-wire-eq-GROUP_END.true c.if-inner-number.true

pub after_group-returns-else-inner-number-clause-bad : goal.after_group-returns-else-inner-number-clause-bad
after_group-returns-else-inner-number-clause-bad t c =
    group_of_another c.loop-place.invariant.0 c.loop-place-test.true _ _ _ c.in_ok-inner.ensures.found
    c.in_ok-inner.ensures.forward c.if-wire-eq-GROUP_END.true c.if-inner-number.false

pub after_group-returns-in_err-place-clause-bad : goal.after_group-returns-in_err-place-clause-bad
after_group-returns-in_err-place-clause-bad t c = λ turns le. at_err c.from_residual-in_err-place.result
    (group_without_value c.loop-place.invariant.0 c.loop-place-test.true _ _ _ c.in_ok-inner.ensures.found
    c.in_ok-inner.ensures.forward c.if-wire-eq-GROUP_END.false c.in_err-place.ensures.bad turns le)

pub after_group-loop-place-preserved : goal.after_group-loop-place-preserved
after_group-loop-place-preserved t c = (
  group_goes_on c.loop-place.invariant.0 c.loop-place-test.true _ _ _ _ c.in_ok-inner.ensures.found
      c.in_ok-inner.ensures.forward c.if-wire-eq-GROUP_END.false c.in_ok-place.ensures.forward
      c.in_ok-place.ensures.found,
  c.in_ok-place.ensures.within,
)

pub after_group-returns-clause-bad : goal.after_group-returns-clause-bad
after_group-returns-clause-bad t c = group_without_end c.loop-place.invariant.0 c.loop-place-test.false

pub after_value-returns-clause-found : goal.after_value-returns-clause-found
after_value-returns-clause-found t c = λ turns le.
    IfOk-weaker c.after_group.result _ _
    (λ next e. value_of_group turns c.args.depth c.args.number c.args.wire _ _ c.if-wire-ne-GROUP_START.false
    c.if-depth-ge-DEEPEST.false e) (c.after_group.ensures.found turns le)

-- Each turn takes a value from both, and where one of them ends the other is the greater.
use Rattle.std.proofs.Common.{◌∙◌, ◌<◌, length, subst, sym}
use Rattle.sz_flat.specs.Comparing.{Orders}
use Rattle.sz_flat.proofs.ListLemmas.{some_left}
use Rattle.sz_flat.proofs.ComparingLemmas.{order_differs, order_equal, order_ends, none_after}
use Rattle.sz_flat.proofs.comparing.order_all.Goals.{then-loop-rest-test+else-not-is_empty, else-loop-rest-test}
use Rattle.sz_flat.proofs.comparing.order_all.Goals as goal

pub loop-rest-preserved : goal.loop-rest-preserved
loop-rest-preserved c = λ found f. c.loop-rest.invariant found
    (order_equal c.loop-rest.rest.now c.loop-rest.other_rest.now
    (some_left c.loop-rest.rest.now (sym c.is_empty.ensures ∙ c.loop-rest-test.true))
    (some_left c.loop-rest.other_rest.now (sym c.is_empty-in-loop-rest.ensures ∙ c.if-not-is_empty.true))
    (c.in-Ok.after, c.in-Ok.behind) found c.in-Ok.ensures.value f)

pub returns-in-Err : goal.returns-in-Err
returns-in-Err c = record {
  value = c.loop-rest.invariant c.in-Err.found
      (order_differs c.loop-rest.rest.now c.loop-rest.other_rest.now
      (some_left c.loop-rest.rest.now (sym c.is_empty.ensures ∙ c.loop-rest-test.true))
      (some_left c.loop-rest.other_rest.now (sym c.is_empty-in-loop-rest.ensures ∙ c.if-not-is_empty.true))
      c.in-Err.found c.in-Err.ensures.value);
}

pub returns : goal.returns
returns c =
    let rest = c.loop-rest.rest.now in
    let other = c.loop-rest.other_rest.now in
    let ended : 0 < length rest → 0 < length other → ⊥ =
    elim c.loop-rest-test.branch [
      | then-loop-rest-test+else-not-is_empty w ↦
          λ some more. none_after other (sym w.is_empty-in-loop-rest.ensures ∙ w.if-not-is_empty.false) more
      | else-loop-rest-test w ↦ λ some more. none_after rest (sym c.is_empty.ensures ∙ w.loop-rest-test.false) some
    ] in
    record {
      value = c.loop-rest.invariant c.cmp.result
          (subst (Orders rest other) (sym c.cmp.ensures) (order_ends rest other ended));
    }

use Rattle.std.proofs.Common.{◌∙◌, arith}
use Rattle.std.proofs.lemmas.Result.{err_from_is_err_and}
use Rattle.sz_check_names.specs.Knowledge.{blocks_of}
use Rattle.sz_types.proofs.ForCallers.{rest_more, rest_none}
use Rattle.sz_check.specs.Quantified.{variable_of}
use Rattle.sz_check.proofs.FoldLemmas.{inside_go, fold_fails, fold_goes, fold_ends}
use Rattle.sz_check.proofs.quantified.bind_inside.Goals as goal

pub returns-in_err-bind_if_inside-clause-value : goal.returns-in_err-bind_if_inside-clause-value
returns-in_err-bind_if_inside-clause-value c =
    let p = err_from_is_err_and c.from_residual.result c.from_residual.ensures.1 in
    rw (p.1, p.2) (fold_fails inside_go _ _ (variable_of c.variable-item.result)
    (blocks_of c.loop-variable.known) c.in_err-bind_if_inside.field-0.0 _
    (rest_more variable_of c.args.variables.now c.loop-variable.variable-index c.variable-item.result (omega arith)
    c.variable-item.is) c.in_err-bind_if_inside.ensures.value c.loop-variable.invariant.judged)

pub loop-variable-preserved : goal.loop-variable-preserved
loop-variable-preserved c = record {
  judged = fold_goes inside_go _ _ (variable_of c.variable-item.result) (blocks_of c.loop-variable.known) _ _
      (rest_more variable_of c.args.variables.now c.loop-variable.variable-index c.variable-item.result (omega arith)
      c.variable-item.is) c.in_ok-bind_if_inside.ensures.value c.loop-variable.invariant.judged;
  outside = c.bind_if_inside.ensures.outside ∙ c.loop-variable.invariant.outside;
  locals = c.bind_if_inside.ensures.locals ∙ c.loop-variable.invariant.locals;
}

pub returns-clause-value : goal.returns-clause-value
returns-clause-value c = fold_ends inside_go _ (blocks_of c.loop-variable.known) _
    (rest_none variable_of c.args.variables.now c.loop-variable.variable-index (omega arith))
    c.loop-variable.invariant.judged

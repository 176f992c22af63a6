use Rattle.std.proofs.Common.{arith}
use Rattle.std.proofs.lemmas.Result.{err_from_is_err_and}
use Rattle.sz_types.proofs.ForCallers.{rest_more, rest_none}
use Rattle.sz_check.specs.Quantified.{variable_of}
use Rattle.sz_check.proofs.FoldLemmas.{last_go, fold_fails, fold_goes, fold_ends}
use Rattle.sz_check.proofs.quantified.all_last.Goals as goal

pub returns-in_err-after : goal.returns-in_err-after
returns-in_err-after c =
    let p = err_from_is_err_and c.from_residual.result c.from_residual.ensures.1 in
    record {
      value = rw (p.1, p.2) (fold_fails last_go _ _
          (variable_of c.variable-item.result) c.loop-variable.after c.in_err-after.field-0.0 _
          (rest_more variable_of c.args.variables.now c.loop-variable.variable-index c.variable-item.result
          (omega arith) c.variable-item.is) c.in_err-after.ensures.value c.loop-variable.invariant);
    }

pub loop-variable-preserved : goal.loop-variable-preserved
loop-variable-preserved c = fold_goes last_go _ _ (variable_of c.variable-item.result) c.loop-variable.after _ _
    (rest_more variable_of c.args.variables.now c.loop-variable.variable-index c.variable-item.result (omega arith)
    c.variable-item.is) c.in_ok-after.ensures.value c.loop-variable.invariant

pub returns : goal.returns
returns c = record {
  value = fold_ends last_go _ c.loop-variable.after _
      (rest_none variable_of c.args.variables.now c.loop-variable.variable-index (omega arith))
      c.loop-variable.invariant;
}

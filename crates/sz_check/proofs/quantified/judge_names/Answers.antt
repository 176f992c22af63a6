use Rattle.std.proofs.Common.{◌∙◌, arith}
use Rattle.std.proofs.lemmas.Result.{err_from_is_err_and}
use Rattle.sz_types.specs.Seen.{seen}
use Rattle.sz_check.specs.Quantified.{declared_of}
use Rattle.sz_check.proofs.FoldLemmas.{rest_is, nothing_left, names_go, fold_fails, fold_goes, fold_ends}
use Rattle.sz_check.proofs.quantified.judge_names.Goals as goal

pub returns-in_err-judge_name-clause-value : goal.returns-in_err-judge_name-clause-value
returns-in_err-judge_name-clause-value c =
    let p = err_from_is_err_and c.from_residual.result c.from_residual.ensures.1 in
    rw (p.1, p.2) (fold_fails (names_go c.args.quantity (seen c.args.ty.now)) _ _ c.name-item.result
    (declared_of c.loop-name.known c.loop-name.variables.items) c.in_err-judge_name.field-0.0 _
    (rest_is c.args.names.now c.loop-name.name-index c.name-item.result (omega arith) c.name-item.is)
    c.in_err-judge_name.ensures.value c.loop-name.invariant.judged)

pub loop-name-preserved : goal.loop-name-preserved
loop-name-preserved c = record {
  judged = fold_goes (names_go c.args.quantity (seen c.args.ty.now)) _ _ c.name-item.result
      (declared_of c.loop-name.known c.loop-name.variables.items) _ _
      (rest_is c.args.names.now c.loop-name.name-index c.name-item.result (omega arith) c.name-item.is)
      c.in_ok-judge_name.ensures.value c.loop-name.invariant.judged;
  outside = c.judge_name.ensures.outside ∙ c.loop-name.invariant.outside;
}

pub returns-clause-value : goal.returns-clause-value
returns-clause-value c = fold_ends (names_go c.args.quantity (seen c.args.ty.now)) _
    (declared_of c.loop-name.known c.loop-name.variables.items) _
    (nothing_left c.args.names.now c.loop-name.name-index (omega arith)) c.loop-name.invariant.judged

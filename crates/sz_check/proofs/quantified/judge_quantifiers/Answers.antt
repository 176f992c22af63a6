use Rattle.std.proofs.Common.{◌∙◌, arith}
use Rattle.std.proofs.lemmas.Result.{err_from_is_err_and}
use Rattle.sz_tree.specs.View.{quantifier_of}
use Rattle.sz_types.proofs.ForCallers.{rest_more, rest_none}
use Rattle.sz_check.specs.Quantified.{declared_of}
use Rattle.sz_check.proofs.FoldLemmas.{quantifiers_go, fold_fails, fold_goes, fold_ends}
use Rattle.sz_check.proofs.quantified.judge_quantifiers.Goals as goal

pub returns-in_err-judge_quantifier-clause-value : goal.returns-in_err-judge_quantifier-clause-value
returns-in_err-judge_quantifier-clause-value c =
    let p = err_from_is_err_and c.from_residual.result c.from_residual.ensures.1 in
    rw (p.1, p.2) (fold_fails quantifiers_go _ _ (quantifier_of c.quantifier-item.result)
    (declared_of c.loop-quantifier.known c.loop-quantifier.variables.items) c.in_err-judge_quantifier.field-0.0 _
    (rest_more quantifier_of c.args.quantifiers.now c.loop-quantifier.quantifier-index c.quantifier-item.result
    (omega arith) c.quantifier-item.is) c.in_err-judge_quantifier.ensures.value c.loop-quantifier.invariant.judged)

pub loop-quantifier-preserved : goal.loop-quantifier-preserved
loop-quantifier-preserved c = record {
  judged = fold_goes quantifiers_go _ _ (quantifier_of c.quantifier-item.result)
      (declared_of c.loop-quantifier.known c.loop-quantifier.variables.items) _ _
      (rest_more quantifier_of c.args.quantifiers.now c.loop-quantifier.quantifier-index c.quantifier-item.result
      (omega arith) c.quantifier-item.is) c.in_ok-judge_quantifier.ensures.value c.loop-quantifier.invariant.judged;
  outside = c.in_ok-judge_quantifier.ensures.outside ∙ c.loop-quantifier.invariant.outside;
}

pub returns-clause-value : goal.returns-clause-value
returns-clause-value c =
    fold_ends quantifiers_go _ (declared_of c.loop-quantifier.known c.loop-quantifier.variables.items) _
    (rest_none quantifier_of c.args.quantifiers.now c.loop-quantifier.quantifier-index (omega arith))
    c.loop-quantifier.invariant.judged

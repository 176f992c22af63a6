use Rattle.std.proofs.Common.{sym, ◌∙◌, subst}
use Rattle.std.proofs.lemmas.Result.{err_from_is_err_and}
use Rattle.sz_check.specs.Top.{top_of}
use Rattle.sz_check_names.specs.Outcome.{Stops}
use Rattle.sz_check.proofs.ProgramLemmas.{of_function}
use Rattle.sz_check.proofs.program.judge_top.Goals as goal

pub returns-in_err-judge_function-in-Function : goal.returns-in_err-judge_function-in-Function
returns-in_err-judge_function-in-Function c =
    let p = err_from_is_err_and c.from_residual-in_err-judge_function-in-Function.result
    c.from_residual-in_err-judge_function-in-Function.ensures.1 in
    let same = of_function (top_of c.args.top.now)
    c.args.tree.now c.in-Function.name c.in-Function.params c.in-Function.of c.in-Function.body
    c.as_slice-params.result.now c.as_slice.result.now c.in-Function.is c.as_slice-params.ensures.value
    c.as_slice.ensures.value in
    record {
      value = rw (p.1, p.2) (subst (Stops c.in_err-judge_function-in-Function.field-0.0)
          (sym same) c.in_err-judge_function-in-Function.ensures.value);
    }

pub returns-in_ok-judge_function-in-Function : goal.returns-in_ok-judge_function-in-Function
returns-in_ok-judge_function-in-Function c = record {
  value = of_function (top_of c.args.top.now)
      c.args.tree.now c.in-Function.name c.in-Function.params c.in-Function.of c.in-Function.body
      c.as_slice-params.result.now c.as_slice.result.now c.in-Function.is c.as_slice-params.ensures.value
      c.as_slice.ensures.value ∙ c.in_ok-judge_function-in-Function.ensures.value;
}

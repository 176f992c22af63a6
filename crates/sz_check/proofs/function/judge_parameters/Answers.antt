use Rattle.std.proofs.Common.{◌∙◌, arith}
use Rattle.std.proofs.lemmas.Result.{err_from_is_err_and}
use Rattle.sz_types.specs.Seen.{seen}
use Rattle.sz_check_names.specs.Knowledge.{scene_of}
use Rattle.sz_check.proofs.StatementLoops.{param_type_fails, param_fails, params_go, params_end}
use Rattle.sz_check.proofs.function.judge_parameters.Goals as goal

pub returns-in_err-ty-clause-value : goal.returns-in_err-ty-clause-value
returns-in_err-ty-clause-value c =
    let p = err_from_is_err_and c.from_residual.result c.from_residual.ensures.1 in
    rw (p.1, p.2) (param_type_fails (scene_of c.loop-tree.known)
    c.args.trees.now c.loop-tree.tree-index c.tree-item.result c.in_err-ty.field-0.0 _
    (omega arith) c.tree-item.is c.in_err-ty.ensures.value c.loop-tree.invariant.judged)

pub returns-in_err-_number-clause-value : goal.returns-in_err-_number-clause-value
returns-in_err-_number-clause-value c =
    let p = err_from_is_err_and c.from_residual-in_err-_number.result c.from_residual-in_err-_number.ensures.1 in
    rw (p.1, p.2) (param_fails (scene_of c.loop-tree.known) c.args.trees.now c.loop-tree.tree-index c.tree-item.result
    (seen c.in_ok-ty.ty)
    c.in_err-_number.field-0.0 _
    (omega arith) c.tree-item.is c.in_ok-ty.ensures.value c.in_err-_number.ensures.value c.loop-tree.invariant.judged)

pub loop-tree-preserved : goal.loop-tree-preserved
loop-tree-preserved c = record {
  judged = params_go (scene_of c.loop-tree.known)
      (scene_of c.declare_variable.new.self) c.args.trees.now c.loop-tree.tree-index c.tree-item.result
      (seen c.in_ok-ty.ty) _ (omega arith)
      c.tree-item.is c.in_ok-ty.ensures.value c.in_ok-_number.ensures.value c.loop-tree.invariant.judged;
  outside = c.in_ok-_number.ensures.outside ∙ c.loop-tree.invariant.outside;
}

pub returns-clause-value : goal.returns-clause-value
returns-clause-value c = params_end (scene_of c.loop-tree.known) c.args.trees.now c.loop-tree.tree-index _
    (omega arith) c.loop-tree.invariant.judged

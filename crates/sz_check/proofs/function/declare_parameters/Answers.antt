use Rattle.std.proofs.Common.{get_or, ap, ◌∙◌, arith}
use Rattle.std.proofs.lemmas.Result.{err_from_is_err_and}
use Rattle.sz_types.specs.Seen.{seen}
use Rattle.sz_check_names.specs.Knowledge.{scene_of}
use Rattle.sz_check.proofs.FunctionLemmas.{declare_fails, declare_goes, declare_ends}
use Rattle.sz_check.proofs.function.declare_parameters.Goals as goal

pub returns-in_err-_number-clause-value : goal.returns-in_err-_number-clause-value
returns-in_err-_number-clause-value c =
    let tree = ap (get_or c.args.trees.now c.loop-i.i) c.index-trees-i.is in
    let p = err_from_is_err_and c.from_residual-in_err-_number.result c.from_residual-in_err-_number.ensures.1 in
    rw (p.1, p.2)
    (declare_fails (scene_of c.loop-i.known) c.args.trees.now c.args.types.now c.loop-i.i _ c.index-types-i.result
    (seen c.in_ok-ty.ty) c.in_err-_number.field-0.0 _ (omega arith)
    (omega arith) tree c.index-types-i.is c.in_ok-ty.ensures.value
    c.in_err-_number.ensures.value c.loop-i.invariant.declared)

pub loop-i-preserved : goal.loop-i-preserved
loop-i-preserved c = record {
  declared = declare_goes (scene_of c.loop-i.known) c.args.trees.now c.args.types.now c.loop-i.i
      (scene_of c.declare_variable.new.self) _ c.index-types-i.result (seen c.in_ok-ty.ty) _ (omega arith)
      (omega arith) (ap (get_or c.args.trees.now c.loop-i.i) c.index-trees-i.is)
      c.index-types-i.is c.in_ok-ty.ensures.value c.in_ok-_number.ensures.value c.loop-i.invariant.declared;
  outside = c.in_ok-_number.ensures.outside ∙ c.loop-i.invariant.outside;
}

pub returns-clause-value : goal.returns-clause-value
returns-clause-value c = declare_ends (scene_of c.loop-i.known) c.args.trees.now c.args.types.now c.loop-i.i _
    (omega arith) c.loop-i.invariant.declared

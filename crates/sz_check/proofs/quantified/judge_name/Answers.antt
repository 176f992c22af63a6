use Rattle.std.proofs.Common.{map, ap, ◌∙◌}
use Rattle.std.proofs.lemmas.Result.{err_from_is_err_and}
use Rattle.sz_types.specs.Seen.{seen}
use Rattle.sz_check_names.specs.Knowledge.{scene_of}
use Rattle.sz_check_names.proofs.TurnLemmas.{map_push}
use Rattle.sz_check_rules.specs.Quantifying.{Variable}
use Rattle.sz_check.specs.Quantified.{variable_of, declared_of}
use Rattle.sz_check.proofs.FoldLemmas.{name_stops, name_goes}
use Rattle.sz_check.proofs.quantified.judge_name.Goals as goal

pub returns-in_err-local-clause-value : goal.returns-in_err-local-clause-value
returns-in_err-local-clause-value c =
    let p = err_from_is_err_and c.from_residual-in_err-local.result c.from_residual-in_err-local.ensures.1 in
    rw (p.1, p.2) (name_stops c.args.quantity (seen c.args.ty.now) _ c.args.name.now
    (declared_of c.args.known.now c.args.variables.now.items)
    c.in_err-local.field-0.0 c.in_ok-copy_ty.ensures.value c.in_err-local.ensures.value)

pub returns-clause-value : goal.returns-clause-value
returns-clause-value c =
    let made : Variable = record {
      name = c.args.name.now;
      quantity = c.args.quantity;
      local = c.in_ok-local.local;
      type = seen c.in_ok-ty.ty;
    } in
    name_goes c.args.quantity (seen c.args.ty.now) _ c.args.name.now
    (declared_of c.args.known.now c.args.variables.now.items) (scene_of c.declare_quantified.new.self) made
    (map variable_of c.push.new.self.items) c.in_ok-copy_ty.ensures.value c.in_ok-local.ensures.value
    (λ i. record {
      name = c.args.name.now;
      quantity = c.args.quantity;
      local = c.in_ok-local.ensures.number i;
      type = c.in_ok-ty.ensures.value i;
    })
    (ap (map variable_of) c.in_ok-push.ensures.items ∙ map_push variable_of c.args.variables.now.items _)

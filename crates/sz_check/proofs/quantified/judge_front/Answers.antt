use Rattle.std.proofs.Common.{map, ap, ◌∙◌}
use Rattle.std.proofs.lemmas.Result.{err_from_is_err_and}
use Rattle.sz_tree.specs.View.{tree_of, quantifier_of}
use Rattle.sz_core.specs.View.{node_of}
use Rattle.sz_check_names.specs.Knowledge.{Knowledge}
use Rattle.sz_check.specs.Quantified.{variable_of, declared_of}
use Rattle.sz_check.proofs.WhenLemmas.{front_stops, condition_stops, front_made}
use Rattle.sz_check.proofs.quantified.judge_front.Goals as goal

pub returns-in_err-variables-clause-value : goal.returns-in_err-variables-clause-value
returns-in_err-variables-clause-value c =
    let p = err_from_is_err_and c.from_residual-in_err-variables.result c.from_residual-in_err-variables.ensures.1 in
    rw (p.1, p.2) (front_stops c.args.known.now c.open.new.self (map quantifier_of c.args.quantifiers.now)
    (tree_of c.args.condition.now)
    c.in_ok-open.ensures.value c.in_err-variables.field-0.0 c.in_err-variables.ensures.value)

pub returns-in_err-condition-clause-value : goal.returns-in_err-condition-clause-value
returns-in_err-condition-clause-value c =
    let p = err_from_is_err_and c.from_residual-in_err-condition.result c.from_residual-in_err-condition.ensures.1 in
    rw (p.1, p.2) (condition_stops c.args.known.now c.open.new.self (map quantifier_of c.args.quantifiers.now)
    (tree_of c.args.condition.now) c.in_ok-open.ensures.value
    (declared_of c.judge_quantifiers.new.known c.in_ok-variables.variables.items) c.in_err-condition.field-0.0
    c.in_ok-variables.ensures.value c.in_err-condition.ensures.value)

pub returns-clause-value : goal.returns-clause-value
returns-clause-value c =
    front_made c.args.known.now c.open.new.self (map quantifier_of c.args.quantifiers.now)
    (tree_of c.args.condition.now) c.in_ok-open.ensures.value c.judge_quantifiers.new.known c.close.new.self
    (map variable_of c.in_ok-variables.variables.items) (node_of c.in_ok-condition.condition)
    c.in_ok-variables.ensures.value c.in_ok-condition.ensures.value
    (c.close.ensures.value c.args.known.now
    (c.in_ok-variables.ensures.outside ∙ ap (λ (k : Knowledge). k.outside) c.in_ok-open.ensures.value))

pub returns-clause-outside : goal.returns-clause-outside
returns-clause-outside c =
    ap (λ (k : Knowledge). k.outside) (c.close.ensures.value c.args.known.now
    (c.in_ok-variables.ensures.outside ∙ ap (λ (k : Knowledge). k.outside) c.in_ok-open.ensures.value))

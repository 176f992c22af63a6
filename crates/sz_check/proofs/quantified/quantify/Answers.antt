use Rattle.std.proofs.Common.{map, ap, ◌∙◌}
use Rattle.std.proofs.lemmas.Result.{err_from_is_err_and}
use Rattle.sz_tree.specs.View.{tree_of}
use Rattle.sz_quant.specs.Seen.{bound_of}
use Rattle.sz_core.specs.View.{quantified_of}
use Rattle.sz_check_names.specs.Knowledge.{Knowledge}
use Rattle.sz_check.specs.Quantified.{variable_of}
use Rattle.sz_check.proofs.WhenLemmas.{quantify_stops, quantify_made}
use Rattle.sz_check.proofs.quantified.quantify.Goals as goal

pub returns-in_err-made-clause-value : goal.returns-in_err-made-clause-value
returns-in_err-made-clause-value c =
    let p = err_from_is_err_and c.from_residual-in_err-made.result c.from_residual-in_err-made.ensures.1 in
    rw (p.1, p.2) (quantify_stops c.args.known.now c.open.new.self (map variable_of c.args.variables.now)
    (tree_of c.args.condition.now) (map bound_of c.in_ok-found.found)
    c.in_ok-_after._after c.in_ok-open.ensures.value c.in_ok-found.ensures.value c.in_ok-_after.ensures.value
    c.in_err-made.field-0.0 (rw c.as_slice.ensures.value at c.in_err-made.ensures.value))

pub returns-clause-value : goal.returns-clause-value
returns-clause-value c =
    quantify_made c.args.known.now c.open.new.self (map variable_of c.args.variables.now) (tree_of c.args.condition.now)
    (map bound_of c.in_ok-found.found)
    c.in_ok-_after._after c.in_ok-open.ensures.value c.in_ok-found.ensures.value c.in_ok-_after.ensures.value
    (map quantified_of c.in_ok-made.made.items) (rw c.as_slice.ensures.value at c.in_ok-made.ensures.value)

pub returns-clause-kept : goal.returns-clause-kept
returns-clause-kept c =
    c.close.ensures.value c.args.known.now
    (c.in_ok-made.ensures.outside ∙ ap (λ (k : Knowledge). k.outside) c.in_ok-open.ensures.value)
    ∙ ap (λ l. record c.args.known.now { locals = l })
    (c.in_ok-made.ensures.locals ∙ ap (λ (k : Knowledge). k.locals) c.in_ok-open.ensures.value)

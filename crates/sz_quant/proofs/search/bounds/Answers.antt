-- Each turn finds the bound of one variable more, or that it has none.
use Rattle.std.proofs.Common.{◌∙◌, map, ap, sym}
use Rattle.std.proofs.lemmas.List.{map-append}
use Rattle.std.specs.Option.{option_map}
use Rattle.sz_tree.specs.View.{tree_of}
use Rattle.sz_quant.specs.Seen.{bound_of}
use Rattle.sz_quant.proofs.TurnLemmas.{found_more, found_lack, same_number}
use Rattle.sz_quant.proofs.search.bounds.Goals as goal

pub loop-number-preserved : goal.loop-number-preserved
loop-number-preserved c =
    let fits = rw (c.deref.ensures.value, c.in_ok-parts.ensures.value, c.variables_from.ensures.value) at
    c.in_ok-bound.ensures.value in
    found_more (map bound_of c.loop-number.found.items) (map bound_of c.push.new.self.items)
    (bound_of c.in-Some.bound) c.args.names.now
    (tree_of c.args.condition.now) c.loop-number.number (rw c.len-number-end.ensures.value at c.loop-number-test.true)
    (ap (option_map bound_of) (sym c.in-Some.is) ∙ fits) (ap (map bound_of) c.in_ok-push-in-Some.ensures.items
    ∙ map-append bound_of c.loop-number.found.items _) c.loop-number.invariant

pub returns-in-None-clause-unbounded : goal.returns-in-None-clause-unbounded
returns-in-None-clause-unbounded c = λ number same.
    let fits = rw (c.deref.ensures.value, c.in_ok-parts.ensures.value, c.variables_from.ensures.value) at
    c.in_ok-bound.ensures.value in
    found_lack (map bound_of c.loop-number.found.items) c.args.names.now (tree_of c.args.condition.now)
    c.loop-number.number number (rw c.len-number-end.ensures.value at c.loop-number-test.true)
    (ap (option_map bound_of) (sym c.in-None.is) ∙ fits)
    (sym (same_number _ number same) ∙ c.in_ok-small-in-None.ensures.value) c.loop-number.invariant

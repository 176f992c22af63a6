-- A number adds itself, a tuple its parts, and no other value anything.
use Rattle.std.proofs.Common.{◌∙◌, ◌+◌, ◌^◌, sym, ap, subst, arith}
use Rattle.std.proofs.lemmas.Result.{on_ok_weaker}
use Rattle.sz_tabs.specs.Bounds.{AreWithin, added_at}
use Rattle.sz_tabs.specs.Rows.{plus}
use Rattle.sz_tabs.proofs.AddingLemmas.{passed, within_further, number_added, components_of_tuple, no_components, plus_nothing}
use Rattle.sz_tabs.proofs.adding.add_value.Goals as goal

pub add_at-requires-clause-within : goal.add_at-requires-clause-within
add_at-requires-clause-within c =
    within_further (2 ^ 126) (2 ^ 126 + 2 ^ 63) c.args.sums.now.items (omega arith) c.requires

pub returns-in-Int-clause-value : goal.returns-in-Int-clause-value
returns-in-Int-clause-value c =
    let number = passed (2 ^ 63) c.number_of.result (omega arith) c.number_of.ensures.within in
    on_ok_weaker c.add_at.result (λ added.
    number_added c.args.value.now c.in-Int.field-0 c.number_of.result c.args.sums.now.items c.add_at.new.sums.items
    c.in-Int.is c.number_of.ensures.value (added ∙ ap (λ n. added_at 0 n c.args.sums.now.items) number))
    c.add_at.ensures.value

pub returns-in-Tuple-clause-value : goal.returns-in-Tuple-clause-value
returns-in-Tuple-clause-value c =
    let parts = components_of_tuple c.args.value.now c.in-Tuple.parts c.as_slice.result.now c.in-Tuple.is
    c.as_slice.ensures.value in
    on_ok_weaker c.add_parts.result (λ added. added ∙ ap (plus c.args.sums.now.items) (sym parts))
    c.add_parts.ensures.value

pub returns-in-Tuple-clause-within : goal.returns-in-Tuple-clause-within
returns-in-Tuple-clause-within c =
    let parts = components_of_tuple c.args.value.now c.in-Tuple.parts c.as_slice.result.now c.in-Tuple.is
    c.as_slice.ensures.value in
    on_ok_weaker c.add_parts.result (λ within. subst (AreWithin (2 ^ 63)) (sym parts) within) c.add_parts.ensures.within

pub returns-in_default : goal.returns-in_default
returns-in_default c =
    let none = no_components c.args.value.now c.in_default.not-Int c.in_default.not-Tuple in
    record {
      value = sym (ap (plus c.args.sums.now.items) none ∙ plus_nothing c.args.sums.now.items);
      within = subst (AreWithin (2 ^ 63)) (sym none) tt;
    }

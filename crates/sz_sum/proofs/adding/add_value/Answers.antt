-- A number adds itself, a tuple its parts, and no other value anything.
use Rattle.std.proofs.Common.{◌≡◌, ◌∙◌, ◌+◌, ◌^◌, [], ◌∷◌, length, map, sym, ap, subst, refl, arith}
use Rattle.std.proofs.lemmas.List.{length-map}
use Rattle.sz_value.specs.Seen.{seen}
use Rattle.sz_tabs.specs.Bounds.{AreWithin, added_at}
use Rattle.sz_tabs.specs.Rows.{number_of, components_of, plus}
use Rattle.sz_tabs.proofs.ForCallers.{passed, within_further, within_plus, number_added, components_of_tuple, no_components, plus_nothing}
use Rattle.sz_sum.proofs.adding.add_value.Goals as goal

pub add_at-requires-clause-within : goal.add_at-requires-clause-within
add_at-requires-clause-within c =
    within_further (2 ^ 126) (2 ^ 126 + 2 ^ 63) c.args.sums.now (omega arith) c.requires.within

pub add_at-requires-clause-fits : goal.add_at-requires-clause-fits
add_at-requires-clause-fits c =
    let n = c.number_of.result in
    let number = passed (2 ^ 63) n (omega arith) c.number_of.ensures.within in
    let it : n ≡ c.in-Int.field-0 = c.number_of.ensures.value ∙ ap (λ w. number_of (seen w)) c.in-Int.is in
    let comps : components_of (seen c.args.value.now) ≡ n ∷ [] =
    ap (λ w. components_of (seen w)) c.in-Int.is ∙ ap (λ k. k ∷ []) (sym it) in
    let near =
    within_plus (2 ^ 126) (2 ^ 63) c.args.sums.now (n ∷ []) c.requires.within (c.number_of.ensures.within, tt) in
    let added = number_added c.args.value.now c.in-Int.field-0 n c.args.sums.now (added_at 0 n c.args.sums.now)
    c.in-Int.is c.number_of.ensures.value refl ∙ ap (plus c.args.sums.now) comps in
    subst (λ k. AreWithin (2 ^ 126 + 2 ^ 63) (added_at 0 k c.args.sums.now)) (sym number)
    (subst (AreWithin (2 ^ 126 + 2 ^ 63)) (sym added) near)

pub returns-in-Int-clause-value : goal.returns-in-Int-clause-value
returns-in-Int-clause-value c =
    let n = c.number_of.result in
    let number = passed (2 ^ 63) n (omega arith) c.number_of.ensures.within in
    number_added c.args.value.now c.in-Int.field-0 n c.args.sums.now c.add_at.new.self
    c.in-Int.is c.number_of.ensures.value (c.add_at.ensures.value ∙ ap (λ k. added_at 0 k c.args.sums.now) number)

pub add_parts-requires-clause-room : goal.add_parts-requires-clause-room
add_parts-requires-clause-room c =
    let slice = c.as_slice.result.now in
    let parts = components_of_tuple c.args.value.now c.in-Tuple.parts slice c.in-Tuple.is c.as_slice.ensures.value in
    omega (arith, ap length parts, length-map (map seen slice) number_of, length-map slice seen, c.requires.room)

pub returns-in-Tuple-clause-value : goal.returns-in-Tuple-clause-value
returns-in-Tuple-clause-value c =
    let parts = components_of_tuple c.args.value.now c.in-Tuple.parts c.as_slice.result.now c.in-Tuple.is
    c.as_slice.ensures.value in
    c.add_parts.ensures.value ∙ ap (plus c.args.sums.now) (sym parts)

pub returns-in-Tuple-clause-within : goal.returns-in-Tuple-clause-within
returns-in-Tuple-clause-within c =
    let parts = components_of_tuple c.args.value.now c.in-Tuple.parts c.as_slice.result.now c.in-Tuple.is
    c.as_slice.ensures.value in
    subst (AreWithin (2 ^ 63)) (sym parts) c.add_parts.ensures.within

pub returns-in_default : goal.returns-in_default
returns-in_default c =
    let none = no_components c.args.value.now c.in_default.not-Int c.in_default.not-Tuple in
    record {
      value = sym (ap (plus c.args.sums.now) none ∙ plus_nothing c.args.sums.now);
      within = subst (AreWithin (2 ^ 63)) (sym none) tt;
    }

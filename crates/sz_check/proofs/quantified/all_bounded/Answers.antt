use Rattle.std.proofs.Common.{◌≡◌, ◌<◌, length, map, Some, refl, ap, ◌∙◌}
use Rattle.std.specs.Prelude.{Err}
use Rattle.std.specs.List.{position}
use Rattle.std.specs.Option.{is_none, option_map}
use Rattle.std.proofs.lemmas.Option.{slice_get-map, slice_get_read}
use Rattle.sz_tree.specs.View.{tree_of}
use Rattle.sz_quant.specs.Fitting.{bounds_of}
use Rattle.sz_quant.specs.Seen.{bound_of}
use Rattle.sz_check_rules.specs.Quantifying.{names_of}
use Rattle.sz_check.specs.Quantified.{variable_of}
use Rattle.sz_check_rules.specs.declared.cause.Cause.TheVariants.{Unbounded}
use Rattle.sz_check.proofs.WhenLemmas.{stops_as, all_found, lacks, lack_within}
use Rattle.sz_check.proofs.quantified.all_bounded.Goals as goal

pub returns-in-Ok : goal.returns-in-Ok
returns-in-Ok c = record {
  value = all_found (tree_of c.args.condition.now) (map variable_of c.args.variables.now) (map bound_of c.in-Ok.found)
      (rw c.in_ok-names.ensures.value at c.in-Ok.ensures.value);
}

pub bounds-variables-number : goal.bounds-variables-number
bounds-variables-number c =
    let lack = c.bounds.ensures.unbounded c.in-Err-Unbounded.number
    (c.in-Err-Unbounded.is ∙ ap (λ (e : _). Err e) c.in-Err-Unbounded.field-0-is) in
    lack_within variable_of c.args.variables.now (tree_of c.args.condition.now) c.in-Err-Unbounded.number
    (rw c.in_ok-names.ensures.value at lack)

pub bounds-variables-number-in-Err-Unbounded : goal.bounds-variables-number-in-Err-Unbounded
bounds-variables-number-in-Err-Unbounded c =
    let lack = c.bounds.ensures.unbounded c.in-Err-Unbounded.number
    (c.in-Err-Unbounded.is ∙ ap (λ (e : _). Err e) c.in-Err-Unbounded.field-0-is) in
    lack_within variable_of c.args.variables.now (tree_of c.args.condition.now) c.in-Err-Unbounded.number
    (rw c.in_ok-names.ensures.value at lack)

pub returns-in-Err-Unbounded : goal.returns-in-Err-Unbounded
returns-in-Err-Unbounded c =
    let number = c.in-Err-Unbounded.number in
    let variables = c.args.variables.now in
    let first = c.index-variables-number.result in
    let lack =
    c.bounds.ensures.unbounded number (c.in-Err-Unbounded.is ∙ ap (λ (e : _). Err e) c.in-Err-Unbounded.field-0-is) in
    let lacking : position is_none
    (bounds_of (names_of (map variable_of variables)) (tree_of c.args.condition.now)) ≡ Some number
    = rw c.in_ok-names.ensures.value at lack in
    let within : number < length variables =
    lack_within variable_of variables (tree_of c.args.condition.now) number lacking in
    let there = slice_get-map variable_of variables number
    ∙ ap (option_map variable_of)
    (slice_get_read variables (length variables) number first refl within c.index-variables-number.is) in
    record {
      value = stops_as c.of.result Unbounded first.name.now _ (rw (← c.index-variables-number.is) at c.of.ensures.value)
          (lacks (map variable_of variables) _ number (variable_of first) lacking there);
    }

-- Each turn reads one value more, and each stop is a lack.
use Rattle.std.proofs.Common.{◌∙◌, ◌+◌, ◌∷◌, [], length, map, sym, ap, subst, arith, length-append}
use Rattle.std.proofs.lemmas.Bool.{eqb-true}
use Rattle.std.proofs.lemmas.List.{map-append, nil_from_length}
use Rattle.std.proofs.lemmas.Result.{err_from_is_err_and}
use Rattle.sz_value.specs.Seen.{seen}
use Rattle.sz_flat.specs.Lists.{SpellsAll}
use Rattle.sz_flat.specs.Reading.{values, all_of, Stands}
use Rattle.sz_flat.specs.Kept.{some_bytes}
use Rattle.sz_flat.proofs.FrontLemmas.{none_stand, one_more_stands}
use Rattle.sz_flat.proofs.ListLemmas.{all_read, none_read, some_left}
use Rattle.sz_flat.proofs.reading.read_all.Goals as goal

pub loop-rest-init : goal.loop-rest-init
loop-rest-init c = (
  0,
  subst (λ done. Stands (all_of values 0) c.args.flat.now (map seen done) c.args.flat.now)
      (sym c.in_ok-values.ensures.items) (none_stand values c.args.flat.now),
)

pub loop-rest-preserved : goal.loop-rest-preserved
loop-rest-preserved c =
    let flat = c.args.flat.now in
    let done = map seen c.loop-rest.values.items in
    let one = seen c.in_ok-value.value in
    let after = c.in_ok-value.after.now in
    let pushed = ap (map seen) c.in_ok-push.ensures.items
    ∙ map-append seen c.loop-rest.values.items (c.in_ok-value.value ∷ []) in
    let count = c.loop-rest.invariant.0 in (
      count + 1,
      subst (λ ys. Stands (all_of values (count + 1)) flat ys after) (sym pushed)
          (one_more_stands values flat done c.loop-rest.rest.now one after count
          c.loop-rest.invariant.1 c.in_ok-value.ensures.value),
    )

pub loop-rest-smaller : goal.loop-rest-smaller
loop-rest-smaller c =
    let one = seen c.in_ok-value.value in
    let after = c.in_ok-value.after.now in
    let long = ap length c.in_ok-value.ensures.value.is ∙ length-append (values.spelled one) after in
    let some = some_bytes one in omega (arith, long, some)

pub returns-in_err-value-clause-not_flat : goal.returns-in_err-value-clause-not_flat
returns-in_err-value-clause-not_flat c = λ is.
    let p = err_from_is_err_and c.from_residual-in_err-value.result c.from_residual-in_err-value.ensures.1 in
    none_read c.args.flat.now c.loop-rest.rest.now (map seen c.loop-rest.values.items)
    c.in_err-value.field-0.0 c.loop-rest.invariant
    (some_left c.loop-rest.rest.now (sym c.is_empty.ensures ∙ c.loop-rest-test.true)) c.in_err-value.ensures.value
    (let both = sym p.1 ∙ is in let e = p.2 in cc)

pub returns-clause-value : goal.returns-clause-value
returns-clause-value c =
    let rest = c.loop-rest.rest.now in
    subst (SpellsAll c.args.flat.now) (sym c.from_vec.ensures.value)
    (all_read c.args.flat.now rest (map seen c.loop-rest.values.items)
    (nil_from_length rest (eqb-true (length rest) 0 (sym c.is_empty.ensures ∙ c.loop-rest-test.false)))
    c.loop-rest.invariant)

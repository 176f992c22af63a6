-- Nothing is spelled where nothing stands in front, nor where more follows.
use Rattle.std.proofs.Common.{◌∙◌, ◌==◌, length, true≢false, sym, ap}
use Rattle.std.proofs.lemmas.Result.{err_from_is_err_and}
use Rattle.sz_value.specs.Seen.{seen}
use Rattle.sz_flat.proofs.ReadingLemmas.{nothing_spelled, more_than_spelled}
use Rattle.sz_flat.proofs.reading.from_flat.Goals as goal

pub returns-in_err-value-clause-not_flat : goal.returns-in_err-value-clause-not_flat
returns-in_err-value-clause-not_flat c = λ is.
    let p = err_from_is_err_and c.from_residual.result c.from_residual.ensures.1 in
    nothing_spelled c.args.flat.now c.in_err-value.field-0.0 c.in_err-value.ensures.value (let both = sym p.1 ∙ is in
    let e = p.2 in cc)

pub returns-then-not-is_empty-clause-not_flat : goal.returns-then-not-is_empty-clause-not_flat
returns-then-not-is_empty-clause-not_flat c = λ _.
    more_than_spelled c.args.flat.now (seen c.in_ok-value.value)
    c.in_ok-value.rest.now c.in_ok-value.ensures.value (λ nothing.
    true≢false (sym (ap (λ l. length l == 0) nothing) ∙ sym c.is_empty.ensures ∙ c.if-not-is_empty.true))

use Rattle.std.proofs.Common.{◌+◌, ◌≤◌, ◌^◌, ℕ, List, get_or, sym, ap, ◌∙◌, arith, drop}
use Rattle.std.proofs.lemmas.List.{at_drop_more}
use Rattle.sz_lex.specs.Numbers.{digits_from, below}
use Rattle.sz_lex.proofs.NumberLemmas.{pushed, not_pushed}
use Rattle.sz_lex.proofs.number.digits.Goals as goal

-- No number goes on with a byte that isn't pushed.
pub returns-in_err-number : goal.returns-in_err-number
returns-in_err-number c =
    let byte = get_or c.args.run.now c.loop-byte.byte-index 0 in
    let rest = drop (c.loop-byte.byte-index + 1) c.args.run.now in
    let some : 1 ≤ c.args.base = omega arith in
    c.from_residual.ensures
    ∙ sym (not_pushed c.args.base c.loop-byte.number byte rest some (sym c.push_digit.ensures ∙ c.in_err-number.was))
    ∙ sym (at_drop_more (λ (t : List ℕ). below (2 ^ 64) (digits_from c.args.base c.loop-byte.number t)) c.args.run.now
    c.loop-byte.byte-index 0 c.loop-byte-test.true)
    ∙ c.loop-byte.invariant.number

-- The pushed digit is the first of those that are left.
pub loop-byte-preserved : goal.loop-byte-preserved
loop-byte-preserved c =
    let byte = get_or c.args.run.now c.loop-byte.byte-index 0 in
    let rest = drop (c.loop-byte.byte-index + 1) c.args.run.now in
    let p = pushed c.args.base c.loop-byte.number byte c.in_ok-number.number rest
    (sym c.push_digit.ensures ∙ c.in_ok-number.was) in
    record {
      number = ap (below (2 ^ 64)) (sym p.more)
          ∙ sym (at_drop_more (λ (t : List ℕ). below (2 ^ 64)
          (digits_from c.args.base c.loop-byte.number t)) c.args.run.now c.loop-byte.byte-index 0 c.loop-byte-test.true)
          ∙ c.loop-byte.invariant.number;
      fits = p.fits;
    }

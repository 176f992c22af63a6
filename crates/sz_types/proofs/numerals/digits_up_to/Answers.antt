-- Where one more digit is refused, the text is.
use Rattle.std.proofs.Common.{◌∙◌}
use Rattle.sz_types.proofs.NumeralLemmas.{refused}
use Rattle.sz_types.proofs.numerals.digits_up_to.Goals as goal

pub returns-in_err-value : goal.returns-in_err-value
returns-in_err-value c =
    record {
      value = c.from_residual.ensures
          ∙ refused _ _ _ _ c.loop-byte.invariant c.loop-byte-test.true c.in_err-value.ensures.value;
    }

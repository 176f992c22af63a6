use Rattle.std.proofs.Common.{sym, ◌∙◌}
use Rattle.sz_protofile.proofs.SkipLemmas.{digit_fails, digit_goes_on, digits_end}
use Rattle.sz_protofile.proofs.number.digits.Goals as goal

pub returns-in_err-number : goal.returns-in_err-number
returns-in_err-number c = record {
  value = c.from_residual.ensures
      ∙ digit_fails c.args.base c.loop-byte.number c.args.run.now c.loop-byte.byte-index _
      c.loop-byte.invariant.number c.loop-byte-test.true (sym c.push_digit.ensures.value ∙ c.in_err-number.was);
}

pub loop-byte-preserved : goal.loop-byte-preserved
loop-byte-preserved c = record {
  number = digit_goes_on c.args.base c.loop-byte.number c.args.run.now c.loop-byte.byte-index _
      c.loop-byte.invariant.number c.in_ok-number.number
      c.loop-byte-test.true (sym c.push_digit.ensures.value ∙ c.in_ok-number.was);
  most = c.in_ok-number.ensures.most;
}

pub returns : goal.returns
returns c = record {
  value = digits_end c.args.base c.loop-byte.number c.args.run.now c.loop-byte.byte-index _
      c.loop-byte.invariant.number c.loop-byte-test.false;
}

use Rattle.std.proofs.Common.{sym, ◌∙◌}
use Rattle.sz_protofile_lex.proofs.Searches.{quoted_starts, newline_fails, quote_closes, quoted_goes_on, quoted_is_open}
use Rattle.sz_protofile_lex.proofs.item.quoted_len.Goals as goal

pub loop-at-init : goal.loop-at-init
loop-at-init c = record { len = quoted_starts c.args.quote c.args.text.now }

pub returns-then-byte-eq10-clause-value : goal.returns-then-byte-eq10-clause-value
returns-then-byte-eq10-clause-value c =
    newline_fails c.args.quote c.args.text.now c.loop-at.at c.loop-at.escaped _ c.loop-at.invariant.len
    c.loop-at-test.true c.if-byte-eq10.true

pub returns-then-ends_string-clause-value : goal.returns-then-ends_string-clause-value
returns-then-ends_string-clause-value c =
    quote_closes c.args.quote c.args.text.now c.loop-at.at c.loop-at.escaped _ c.loop-at.invariant.len
    c.loop-at-test.true c.if-byte-eq10.false (sym c.ends_string.ensures.value ∙ c.if-ends_string.true)

pub loop-at-preserved : goal.loop-at-preserved
loop-at-preserved c = record {
  len = rw c.takes_next-escaped.ensures.value
      (quoted_goes_on c.args.quote c.args.text.now c.loop-at.at c.loop-at.escaped _
      c.loop-at.invariant.len c.loop-at-test.true c.if-byte-eq10.false
      (sym c.ends_string.ensures.value ∙ c.if-ends_string.false));
}

pub returns-clause-value : goal.returns-clause-value
returns-clause-value c = quoted_is_open c.args.quote c.args.text.now c.loop-at.at c.loop-at.escaped _
    c.loop-at.invariant.len c.loop-at-test.false

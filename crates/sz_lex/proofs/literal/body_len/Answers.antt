use Rattle.std.proofs.Common.{◌+◌, ◌-◌, ◌≤◌, ◌<◌, length, ap, ◌∙◌, arith}
use Rattle.std.proofs.lemmas.List.{take_rest, length-drop}
use Rattle.sz_lex.proofs.BodyLemmas.{quote_ends, newline_ends, nothing_ends, escape_ends, escape_goes_on}
use Rattle.sz_lex.proofs.literal.body_len.Goals as goal

pub returns-then-text-mark-eq34-clause-value : goal.returns-then-text-mark-eq34-clause-value
returns-then-text-mark-eq34-clause-value c = quote_ends c.args.quoted c.args.text.now c.loop-plain.at c.in-Some.plain
    c.loop-plain.invariant.len c.in-Some.ensures c.if-text-mark-eq34.true

pub returns-then-text-mark-ne92-clause-value : goal.returns-then-text-mark-ne92-clause-value
returns-then-text-mark-ne92-clause-value c = newline_ends c.args.quoted c.args.text.now c.loop-plain.at c.in-Some.plain
    c.loop-plain.invariant.len c.in-Some.ensures c.if-text-mark-eq34.false c.if-text-mark-ne92.true

pub returns-in_err-escape-clause-value : goal.returns-in_err-escape-clause-value
returns-in_err-escape-clause-value c = c.from_residual.ensures
    ∙ escape_ends c.args.quoted c.args.text.now c.loop-plain.at c.in-Some.plain c.loop-plain.invariant.len
    c.in-Some.ensures c.if-text-mark-ne92.false c.in_err-escape.ensures.value

pub loop-plain-preserved : goal.loop-plain-preserved
loop-plain-preserved c =
    let rest = escape_goes_on c.args.quoted c.args.text.now c.loop-plain.at c.in-Some.plain c.in_ok-escape.escape
    c.loop-plain.invariant.len c.in-Some.ensures c.if-text-mark-ne92.false c.in_ok-escape.ensures.value in
    let text = c.args.text.now in
    let mark = c.loop-plain.at + c.in-Some.plain in
    let after_escape : c.in_ok-escape.escape ≤ length text - (mark + 1) =
    omega (arith, c.in_ok-escape.ensures.within, ap length (take_rest text (mark + 1)), length-drop (mark + 1) text) in
    let found : c.in-Some.plain < length text - c.loop-plain.at =
    omega
    (arith, c.in-Some.ensures.0.high, ap length (take_rest text c.loop-plain.at), length-drop c.loop-plain.at text) in
    record { within = omega (arith, after_escape, found); len = rest }

pub returns-clause-value : goal.returns-clause-value
returns-clause-value c =
    nothing_ends c.args.quoted c.args.text.now c.loop-plain.at c.loop-plain.invariant.len c.in_default.ensures

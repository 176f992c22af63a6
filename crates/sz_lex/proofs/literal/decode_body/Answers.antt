use Rattle.std.proofs.Common.{◌≡◌, ◌+◌, ◌-◌, ◌≤◌, ◌<◌, ℕ, List, ◌++◌, Some, length, take, drop, get_or, sym, ap, subst, ◌∙◌, arith}
use Rattle.std.proofs.lemmas.List.{take_rest, length-drop}
use Rattle.sz_lex.specs.Reading.{whole_value, escape_value, escape_size, first}
use Rattle.sz_lex.proofs.BodyLemmas.{IsDecoded, nothing_closes, escape_closes, escape_decodes, closes_whole, closes_early, first_is, run_is}
use Rattle.sz_lex.proofs.literal.decode_body.Goals as goal
use Rattle.sz_lex.proofs.literal.decode_body.Goals.{else-body-mark-eq34-via-then-body-mark-eq34+else-mark-body}
use Rattle.sz_lex.proofs.literal.decode_body.Goals.{else-body-mark-eq34-via-else-body-mark-eq34}

-- The closing quote is the last byte.
pub returns-then-mark-body : goal.returns-then-mark-body
returns-then-mark-body c =
    let text = c.args.body.now in
    let value = c.loop-plain.value.items in
    ap (λ (v : List ℕ). Some v) (c.in_ok-extend_from_slice.ensures.items
    ∙ ap (λ (t : List ℕ). value ++ t) (run_is text c.loop-plain.at c.in-Some.plain))
    ∙ closes_whole c.args.quoted text c.loop-plain.at c.in-Some.plain value
    c.loop-plain.invariant.decoded c.in-Some.ensures c.if-body-mark-eq34.true c.if-mark-body.true

-- A quote before the last byte, or a newline.
pub returns-then-body-mark-ne92 : goal.returns-then-body-mark-ne92
returns-then-body-mark-ne92 c =
    let text = c.args.body.now in
    let mark = c.loop-plain.at + c.in-Some.plain in
    let early : get_or text mark 0 ≡ 34 → mark + 1 ≡ length text → ⊥ = elim c.else-body-mark-eq34.branch [
      | else-body-mark-eq34-via-then-body-mark-eq34+else-mark-body w ↦ λ is len. w.if-mark-body.false len
      | else-body-mark-eq34-via-else-body-mark-eq34 w ↦ λ is len. w.if-body-mark-eq34.false is
    ] in
    closes_early c.args.quoted text
    c.loop-plain.at c.in-Some.plain c.loop-plain.value.items c.loop-plain.invariant.decoded
    c.in-Some.ensures early c.if-body-mark-ne92.true

pub returns-in_default-escape_in : goal.returns-in_default-escape_in
returns-in_default-escape_in c =
    ap (whole_value (length c.args.body.now))
    (sym (escape_closes c.args.quoted c.args.body.now c.loop-plain.at c.in-Some.plain
    c.loop-plain.value.items c.loop-plain.invariant.decoded c.in-Some.ensures c.if-body-mark-ne92.false
    c.in_default-escape_in.ensures.value))

-- The escape's value stands after that of the bytes before it.
pub loop-plain-preserved : goal.loop-plain-preserved
loop-plain-preserved c =
    let text = c.args.body.now in
    let mark = c.loop-plain.at + c.in-Some.plain in
    let value = c.loop-plain.value.items in
    let later = take (length text - (mark + 1)) (drop (mark + 1) text) in
    let size : c.escape_size-size.result ≡ escape_size (first later) =
    c.escape_size-size.ensures ∙ ap escape_size (first_is later) in
    let decoded = escape_decodes c.args.quoted text c.loop-plain.at c.in-Some.plain c.escape_size-size.result value
    (escape_value c.in-Some-escape_in.escape) c.loop-plain.invariant.decoded c.in-Some.ensures c.if-body-mark-ne92.false
    c.in-Some-escape_in.ensures.value size in
    let items : value ++ take c.in-Some.plain (drop c.loop-plain.at text) ++ escape_value c.in-Some-escape_in.escape
    ≡ c.push_escape.new.value.items =
    ap (λ (t : List ℕ). value ++ t ++ escape_value c.in-Some-escape_in.escape)
    (sym (run_is text c.loop-plain.at c.in-Some.plain))
    ∙ ap (λ (t : List ℕ). t ++ escape_value c.in-Some-escape_in.escape) (sym c.in_ok-extend_from_slice.ensures.items)
    ∙ sym c.in_ok-push_escape.ensures in
    let within : c.escape_size-size.result ≤ length text - (mark + 1) =
    omega (
      arith,
      size,
      c.in-Some-escape_in.ensures.within,
      ap length (take_rest text (mark + 1)),
      length-drop (mark + 1) text,
    ) in
    let found : c.in-Some.plain < length text - c.loop-plain.at =
    omega
    (arith, c.in-Some.ensures.0.high, ap length (take_rest text c.loop-plain.at), length-drop c.loop-plain.at text) in
    record {
      within = omega (arith, within, found);
      decoded =
          subst (λ (v : List ℕ). IsDecoded c.args.quoted text (mark + 1 + c.escape_size-size.result) v) items decoded;
    }

pub returns : goal.returns
returns c = ap (whole_value (length c.args.body.now)) (sym (nothing_closes c.args.quoted c.args.body.now c.loop-plain.at
    c.loop-plain.value.items c.loop-plain.invariant.decoded c.in_default.ensures))

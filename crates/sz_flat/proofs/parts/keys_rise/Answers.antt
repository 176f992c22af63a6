-- Each turn compares a key with the one before it.
use Rattle.std.proofs.Common.{◌∙◌, sym, ap, true≢false, arith, is_lt}
use Rattle.sz_flat.proofs.RisingLemmas.{compared, rise_one, rise_next, less_at, is_less}
use Rattle.sz_flat.proofs.parts.keys_rise.Goals as goal

pub loop-i-init : goal.loop-i-init
loop-i-init c = rise_one c.args.pairs.now

pub returns-then-not-is_lt : goal.returns-then-not-is_lt
returns-then-not-is_lt c =
    let low = c.loop-i.near-i in
    let found = sym c.is_lt.ensures ∙ c.if-not-is_lt.true in
    let there = compared _ _ _ _ c.index-pairs-i.is c.index-pairs-i-in-loop-i.is in
    record {
      value = (
        λ claim. absurd (true≢false (sym claim)),
        λ rise. absurd (true≢false (sym (ap is_lt (c.order.ensures.value ∙ sym there
            ∙ less_at c.args.pairs.now c.loop-i.i c.index-pairs-i.result c.index-pairs-i-in-loop-i.result
            (omega (arith, low)) c.loop-i-test.true c.index-pairs-i.is c.index-pairs-i-in-loop-i.is rise)) ∙ found)),
      );
    }

pub loop-i-preserved : goal.loop-i-preserved
loop-i-preserved c =
    let low = c.loop-i.near-i in
    let there = compared _ _ _ _ c.index-pairs-i.is c.index-pairs-i-in-loop-i.is in
    rise_next c.args.pairs.now c.loop-i.i c.index-pairs-i.result c.index-pairs-i-in-loop-i.result (omega (arith, low))
    c.loop-i-test.true c.index-pairs-i.is c.index-pairs-i-in-loop-i.is c.loop-i.invariant
    (there ∙ sym c.order.ensures.value ∙ is_less c.order.result (sym c.is_lt.ensures ∙ c.if-not-is_lt.false))

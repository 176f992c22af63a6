-- What was lent are all entries, and their index lists are distinct.
use Rattle.std.proofs.Common.{◌∙◌, ◌≤◌, get_or, length, ap, arith}
use Rattle.sz_total.proofs.ReadLemmas.{lent_more, lent_all, lent_apart}
use Rattle.sz_total.proofs.in_order.lent_entries.Goals as goal

pub loop-part-preserved : goal.loop-part-preserved
loop-part-preserved c =
    let at = c.loop-part.part-index in
    let part = c.part-item.result in
    let are = c.deref-part-items.ensures.value in
    lent_more c.args.parts.now.items at part c.loop-part.entries.items c.lend_entries.new.entries.items
    (omega (arith, c.loop-part-test.true, ap length are))
    (c.part-item.is ∙ ap (λ l. get_or l at part) are) c.in_ok-lend_entries.ensures.ok
    c.in_ok-lend_entries.ensures.apart c.loop-part.invariant

pub returns-clause-value : goal.returns-clause-value
returns-clause-value c =
    let parts = c.args.parts.now.items in
    let end : length parts ≤ c.loop-part.part-index =
    omega (arith, c.loop-part-test.false, ap length c.deref-part-items.ensures.value) in
    lent_all parts c.loop-part.part-index c.loop-part.entries.items end c.loop-part.invariant

pub returns-clause-apart : goal.returns-clause-apart
returns-clause-apart c =
    let parts = c.args.parts.now.items in
    let end : length parts ≤ c.loop-part.part-index =
    omega (arith, c.loop-part-test.false, ap length c.deref-part-items.ensures.value) in
    lent_apart parts c.loop-part.part-index c.loop-part.entries.items end c.requires.placed c.loop-part.invariant

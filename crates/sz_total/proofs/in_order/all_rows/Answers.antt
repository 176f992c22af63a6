-- Each turn reads one entry more.
use Rattle.sz_total.proofs.ReadLemmas.{one_read}
use Rattle.sz_total.proofs.in_order.all_rows.Goals as goal

pub loop-entry-preserved : goal.loop-entry-preserved
loop-entry-preserved c =
    one_read c.deref-entry-items.result.now c.loop-entry.entry-index c.entry-item.result c.loop-entry.all
    c.push.new.self c.in_ok-rows.field-0 c.loop-entry-test.true c.entry-item.is c.in_ok-rows.ensures.value
    c.in_ok-rows.ensures.bounded c.in_ok-push.ensures.ok c.loop-entry.invariant

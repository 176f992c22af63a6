-- Each declaration has its weights.
use Rattle.sz_total.proofs.TotalLemmas.{weights_at}
use Rattle.sz_total.proofs.total.all_new.Goals as goal

pub new-requires : goal.new-requires
new-requires c = record {
  weights = weights_at c.as_slice-table-items.result.now c.args.tables.now c.as_slice-table-items.ensures.value
      c.requires.weights c.loop-table.table-index c.loop-table-test.true c.table-item.result c.table-item.is;
}

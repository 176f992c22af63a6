-- The last row has none behind it.
use Rattle.std.proofs.Common.{sym, arith}
use Rattle.sz_save_format.specs.Entries.{row_may_follow}
use Rattle.sz_save_format.proofs.LoopLemmas.{order_ends}
use Rattle.sz_save_format.proofs.order.rows_in_order.Goals as goal

pub returns : goal.returns
returns c = record {
  value = sym (order_ends (row_may_follow c.args.kind) c.args.rows.now c.loop-i.i (omega arith)
      c.loop-i-test.false c.loop-i.invariant);
}

-- The last index list has none behind it.
use Rattle.std.proofs.Common.{sym, arith}
use Rattle.sz_save_format.specs.Entries.{entry_may_follow}
use Rattle.sz_save_format.proofs.LoopLemmas.{order_ends}
use Rattle.sz_save_format.proofs.order.entries_rise.Goals as goal

pub returns : goal.returns
returns c = record {
  value = sym (order_ends entry_may_follow c.args.entries.now c.loop-i.i (omega arith)
      c.loop-i-test.false c.loop-i.invariant);
}

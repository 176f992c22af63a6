-- The last key has none behind it.
use Rattle.std.proofs.Common.{sym, arith}
use Rattle.sz_value.specs.Seen.{seen_pair}
use Rattle.sz_save_format.specs.DecodingRows.{key_may_follow}
use Rattle.sz_save_format.proofs.LoopLemmas.{seen_order_ends}
use Rattle.sz_save_format.proofs.values.keys_rise.Goals as goal

pub returns : goal.returns
returns c = record {
  value = sym (seen_order_ends key_may_follow seen_pair c.args.pairs.now c.loop-i.i (omega arith)
      c.loop-i-test.false c.loop-i.invariant);
}

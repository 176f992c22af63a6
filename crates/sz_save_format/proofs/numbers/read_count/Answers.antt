-- A count of 8 bytes stands there.
use Rattle.std.proofs.Common.{arith}
use Rattle.sz_save_format.proofs.NumberLemmas.{count_read}
use Rattle.sz_save_format.proofs.numbers.read_count.Goals as goal

pub returns : goal.returns
returns c = record {
  value = count_read c.args.flat.now c.split_at.result.0.now c.split_at.result.1.now c.count_of.result
      c.split_at.ensures.front c.split_at.ensures.back
      c.split_at.ensures.front_len c.count_of.ensures.value (omega arith);
}

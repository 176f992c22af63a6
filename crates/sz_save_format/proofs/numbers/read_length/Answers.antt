-- A length of 4 bytes stands there.
use Rattle.std.proofs.Common.{arith}
use Rattle.sz_save_format.proofs.NumberLemmas.{length_read}
use Rattle.sz_save_format.proofs.numbers.read_length.Goals as goal

pub returns : goal.returns
returns c = record {
  value = length_read c.args.flat.now c.split_at.result.0.now c.split_at.result.1.now c.length_of.result
      c.split_at.ensures.front c.split_at.ensures.back
      c.split_at.ensures.front_len c.length_of.ensures.value (omega arith);
}

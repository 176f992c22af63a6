-- The high 64 bits, and then the low ones.
use Rattle.std.proofs.Common.{◌∙◌, ap}
use Rattle.std.specs.Int.{w128, cast_unsigned}
use Rattle.std.proofs.lemmas.Int.{to_z-of_z}
use Rattle.sz_flat.proofs.WritingLemmas.{on_one}
use Rattle.sz_save_format.proofs.WritingLemmas.{sum_put}
use Rattle.sz_save_format.proofs.put.put_sum.Goals as goal

pub returns : goal.returns
returns c = record {
  value = on_one c.put_count-2.result
      (sum_put c.args.out.now.items c.put_count.new.out.items c.put_count-2.new.out.items
      c.cast_unsigned-bits.result c.args.sum
      (c.cast_unsigned-bits.ensures ∙ ap (cast_unsigned w128) (to_z-of_z w128 c.args.sum c.ranges.sum))
      c.in_ok-put_count.ensures.value) c.put_count-2.ensures.value;
}

use Rattle.std.proofs.Common.{sym, ◌∙◌}
use Rattle.sz_protofile_names.proofs.HashLemmas.{hash_step, hash_end}
use Rattle.sz_protofile_names.proofs.hashes.hash_on.Goals as goal

pub loop-byte-preserved : goal.loop-byte-preserved
loop-byte-preserved c =
    rw c.hash_with-all.ensures.value (sym (hash_step c.args.text.now c.loop-byte.byte-index _
    c.loop-byte-test.true c.loop-byte.all) ∙ c.loop-byte.invariant)

pub returns : goal.returns
returns c = record {
  value = sym (hash_end c.args.text.now c.loop-byte.byte-index c.loop-byte-test.false c.loop-byte.all)
      ∙ c.loop-byte.invariant;
}

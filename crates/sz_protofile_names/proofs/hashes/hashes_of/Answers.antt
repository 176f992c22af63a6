use Rattle.std.proofs.Common.{sym, ◌∙◌}
use Rattle.std.specs.String.{string_bytes}
use Rattle.sz_protofile_names.proofs.HashLemmas.{hashes_step, hashes_end}
use Rattle.sz_protofile_names.proofs.hashes.hashes_of.Goals as goal

pub loop-name-preserved : goal.loop-name-preserved
loop-name-preserved c =
    rw (c.in_ok-take_hash.ensures.ok, c.hash_of.ensures.value, c.as_str.ensures.value, c.name-item.is)
    (sym (hashes_step string_bytes c.args.names.now c.loop-name.name-index _
    c.loop-name-test.true c.loop-name.hashes.keys) ∙ c.loop-name.invariant)

pub returns : goal.returns
returns c = record {
  value = sym
      (hashes_end string_bytes c.args.names.now c.loop-name.name-index c.loop-name-test.false c.loop-name.hashes.keys)
      ∙ c.loop-name.invariant;
}

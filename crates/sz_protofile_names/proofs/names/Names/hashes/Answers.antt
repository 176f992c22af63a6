use Rattle.std.proofs.Common.{[], ap, map, ◌∙◌}
use Rattle.std.specs.String.{string_bytes}
use Rattle.sz_protofile_names.specs.Hashes.{with_hashes}
use Rattle.sz_protofile_names.proofs.HashLemmas.{hashed}
use Rattle.sz_protofile_names.proofs.names.Names.hashes.Goals as goal

pub returns : goal.returns
returns c = record {
  all = hashed c.args.self.now c.in_ok-hashes.hashes.keys
      (c.in_ok-hashes.ensures.value ∙ ap (λ ks. with_hashes [] (map string_bytes ks)) c.as_slice.ensures.keys
      ∙ ap (with_hashes []) c.self.view_is);
}

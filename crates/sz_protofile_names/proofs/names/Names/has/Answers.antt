use Rattle.std.proofs.Common.{ap, ◌∙◌}
use Rattle.std.specs.String.{string_bytes}
use Rattle.sz_protofile.specs.Names.{has_name}
use Rattle.sz_protofile_names.proofs.SetLemmas.{any_name}
use Rattle.sz_protofile_names.proofs.names.Names.has.Goals as goal

pub returns : goal.returns
returns c = record {
  value = c.contains.ensures ∙ any_name string_bytes c.args.name.now c.self.inside.held.keys
      ∙ ap (has_name c.args.name.now) c.self.view_is;
}

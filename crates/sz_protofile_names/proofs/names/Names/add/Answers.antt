use Rattle.std.proofs.Common.{ap, not, ◌∙◌}
use Rattle.std.specs.String.{string_bytes}
use Rattle.sz_protofile.specs.Names.{has_name}
use Rattle.sz_protofile.specs.Lookup.{with_name}
use Rattle.sz_protofile_names.proofs.SetLemmas.{any_name, keys_with}
use Rattle.sz_protofile_names.proofs.names.Names.add.Goals as goal

pub returns-clause-free : goal.returns-clause-free
returns-clause-free c =
    c.in_ok-new.ensures.added
    ∙ ap not (any_name string_bytes (string_bytes c.args.name) c.self.inside.held.keys
    ∙ ap (has_name (string_bytes c.args.name)) c.self.view_is)

pub returns-clause-ok : goal.returns-clause-ok
returns-clause-ok c =
    keys_with string_bytes c.self.inside.held.keys c.insert_full.new.self.keys c.args.name c.in_ok-new.ensures.keys
    ∙ ap (λ l. with_name l (string_bytes c.args.name)) c.self.view_is

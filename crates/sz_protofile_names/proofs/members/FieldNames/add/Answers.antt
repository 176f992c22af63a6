use Rattle.std.proofs.Common.{ap, not, ◌∙◌}
use Rattle.std.specs.String.{string_bytes}
use Rattle.sz_protofile.specs.Faults.{has_field}
use Rattle.sz_protofile_names.proofs.SetLemmas.{any_field}
use Rattle.sz_protofile_names.proofs.members.FieldNames.add.Goals as goal

pub returns-clause-free : goal.returns-clause-free
returns-clause-free c =
    c.in_ok-new.ensures.added
    ∙ ap not (any_field (λ k. string_bytes k.0) (λ k. string_bytes k.1) (string_bytes c.args.owner)
    (string_bytes c.args.name) c.self.inside.held.keys
    ∙ ap (has_field (string_bytes c.args.owner) (string_bytes c.args.name)) c.self.view_is)

use Rattle.std.proofs.Common.{ap, not, ◌∙◌}
use Rattle.std.specs.String.{string_bytes}
use Rattle.sz_protofile.specs.Faults.{has_number}
use Rattle.sz_protofile_names.proofs.SetLemmas.{any_number}
use Rattle.sz_protofile_names.proofs.members.FieldNumbers.add.Goals as goal

pub returns-clause-free : goal.returns-clause-free
returns-clause-free c =
    c.in_ok-new.ensures.added
    ∙ ap not
    (any_number (λ k. string_bytes k.0) (λ k. k.1) (string_bytes c.args.owner) c.args.number c.self.inside.held.keys
    ∙ ap (has_number (string_bytes c.args.owner) c.args.number) c.self.view_is)

use Rattle.std.proofs.Common.{ap, ◌∙◌}
use Rattle.sz_check_names.specs.Parts.{has_number}
use Rattle.sz_check_names.proofs.TakenLemmas.{number_has}
use Rattle.sz_check_names.proofs.field_names.TakenNumbers.has.Goals as goal

pub returns : goal.returns
returns c = record {
  value = c.contains.ensures ∙ number_has c.args.number c.self.inside.stored.keys
      ∙ ap (has_number c.args.number) c.self.view_is;
}

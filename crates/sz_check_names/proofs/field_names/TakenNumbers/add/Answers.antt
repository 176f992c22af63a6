use Rattle.std.proofs.Common.{ap, ◌∙◌, reverse, ◌∷◌, if◌then◌else◌}
use Rattle.sz_check_names.specs.Parts.{has_number}
use Rattle.sz_check_names.proofs.TakenLemmas.{numbers_with}
use Rattle.sz_check_names.proofs.field_names.TakenNumbers.add.Goals as goal

pub returns : goal.returns
returns c = record {
  ok = ap reverse c.in_ok-insert.ensures.keys ∙ numbers_with c.args.number c.self.inside.stored.keys
      ∙ ap (λ l. if has_number c.args.number l then l else c.args.number ∷ l) c.self.view_is;
}

use Rattle.std.proofs.Common.{ap, ◌∙◌}
use Rattle.std.specs.String.{string_bytes}
use Rattle.sz_scope.specs.Names.{place_of}
use Rattle.sz_scope.proofs.NamesLemmas.{position_is}
use Rattle.sz_scope.proofs.names.Names.find.Goals as goal

-- the set answers the place of the first key with the name's bytes
pub returns : goal.returns
returns c = record {
  value = c.get_index_of.ensures.index ∙ position_is string_bytes c.args.name.now c.self.inside.names.keys
      ∙ ap (place_of c.args.name.now) c.self.view_is;
}

use Rattle.std.proofs.Common.{ap, ◌∙◌, ◌++◌, ◌∷◌, []}
use Rattle.std.specs.String.{string_bytes}
use Rattle.sz_scope.specs.Names.{place_of}
use Rattle.sz_scope.proofs.names.Names.add.Goals as goal
use Rattle.sz_scope.proofs.NamesLemmas.{keys_added}

-- the set has no key with the name's bytes, so that the new key goes last
pub returns-clause-ok : goal.returns-clause-ok
returns-clause-ok c =
    keys_added string_bytes c.args.name.now c.self.inside.names.keys c.insert.new.self.keys c.in_ok-name.name
    (c.in_ok-name.ensures.ok)
    (ap (place_of c.args.name.now) c.self.view_is ∙ c.requires.absent) (c.in_ok-insert.ensures.keys)
    ∙ ap (λ l. l ++ c.args.name.now ∷ []) c.self.view_is

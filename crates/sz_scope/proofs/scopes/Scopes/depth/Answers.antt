use Rattle.std.proofs.Common.{sym, ap, ◌∙◌, length, reverse}
use Rattle.sz_scope.proofs.BlocksLemmas.{length_blocks}
use Rattle.sz_scope.proofs.scopes.Scopes.depth.Goals as goal

-- as many blocks as are counted
pub returns : goal.returns
returns c = record {
  value = sym (length_blocks c.self.inside.names (reverse c.self.inside.entries.items) c.self.inside.depth)
      ∙ ap (λ l. length l) c.self.view_is;
}

use Rattle.std.proofs.Common.{sym, ap, ◌∙◌, refl, ◌∷◌, [], length, reverse, true≢false, arith}
use Rattle.sz_scope.proofs.BlocksLemmas.{length_blocks}
use Rattle.sz_scope.proofs.SoundLemmas.{sound_opened, blocks_opened}
use Rattle.sz_scope.proofs.scopes.Scopes.push.Goals as goal

-- no more blocks can be counted
pub returns-then-self-clause-full : goal.returns-then-self-clause-full
returns-then-self-clause-full c =
    let count = sym (length_blocks c.self.inside.names (reverse c.self.inside.entries.items) c.self.inside.depth)
    ∙ ap (λ l. length l) c.self.view_is in
    (λ p. omega (arith, count, c.if-self.true), λ p. refl)

-- the new block is empty
pub invariant_of-self : goal.invariant_of-self
invariant_of-self c = sound_opened c.self.inside.names c.self.inside.newest.items
    (reverse c.self.inside.entries.items) c.self.inside.depth c.self.invariant

pub returns-clause-ok : goal.returns-clause-ok
returns-clause-ok c =
    blocks_opened c.self.inside.names c.self.inside.newest.items (reverse c.self.inside.entries.items)
    c.self.inside.depth c.self.invariant ∙ ap (λ l. [] ∷ l) c.self.view_is

-- another block can be counted
pub returns-clause-full : goal.returns-clause-full
returns-clause-full c =
    let count = sym (length_blocks c.self.inside.names (reverse c.self.inside.entries.items) c.self.inside.depth)
    ∙ ap (λ l. length l) c.self.view_is in
    (λ p. absurd (true≢false (sym p)), λ p. absurd (c.if-self.false (omega (arith, count, p))))

use Rattle.std.proofs.Common.{◌≡◌, suc, ◌-◌, sym, ap, subst, ◌∙◌, drop, length, reverse, arith}
use Rattle.sz_scope.specs.Chain.{IsSound, IsIndexed, blocks_of}
use Rattle.sz_scope.proofs.SoundLemmas.{within_names, sound_closed, blocks_closed}
use Rattle.sz_scope.proofs.scopes.Scopes.pop.Goals as goal

pub remove_deeper-requires-clause-within : goal.remove_deeper-requires-clause-within
remove_deeper-requires-clause-within c =
    within_names c.self.inside.names (length c.self.inside.newest.items)
    (reverse c.self.inside.entries.items) c.self.invariant.room c.self.invariant.named

-- the entries of the innermost block are taken out, and all others are as they were
pub invariant_of-self : goal.invariant_of-self
invariant_of-self c =
    let at : c.self.inside.depth ≡ suc (c.self.inside.depth - 1) = omega (arith, c.if-self-eq0.false) in
    let entries = reverse c.self.inside.entries.items in
    let sound = subst (IsSound c.self.inside.names c.self.inside.newest.items entries) at c.self.invariant in
    let indexed = subst (IsIndexed c.remove_deeper.new.newest.items)
    c.remove_deeper.ensures.entries c.remove_deeper.ensures.indexed in
    subst (λ es. IsSound c.self.inside.names c.remove_deeper.new.newest.items es (c.self.inside.depth - 1))
    (sym c.remove_deeper.ensures.entries) (sound_closed c.self.inside.names (c.self.inside.depth - 1)
    c.self.inside.newest.items c.remove_deeper.new.newest.items entries sound
    c.remove_deeper.ensures.room indexed)

pub returns-clause-value : goal.returns-clause-value
returns-clause-value c =
    let at : c.self.inside.depth ≡ suc (c.self.inside.depth - 1) = omega (arith, c.if-self-eq0.false) in
    let entries = reverse c.self.inside.entries.items in
    let sound = subst (IsSound c.self.inside.names c.self.inside.newest.items entries) at c.self.invariant in
    ap (λ es. blocks_of c.self.inside.names es (c.self.inside.depth - 1)) c.remove_deeper.ensures.entries
    ∙ blocks_closed c.self.inside.names (c.self.inside.depth - 1) c.self.inside.newest.items entries sound
    ∙ ap (λ n. drop 1 (blocks_of c.self.inside.names entries n)) (sym at)
    ∙ ap (drop 1) c.self.view_is

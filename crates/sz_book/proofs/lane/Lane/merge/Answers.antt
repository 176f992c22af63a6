use Rattle.std.proofs.Common.{◌≡◌, ◌++◌, ap, sym, ◌∙◌, subst}
use Rattle.sz_book_rules.specs.History.{IsAmong, AreApart}
use Rattle.sz_book.proofs.lane.Lane.merge.Goals as goal

pub absorb-requires-clause-apart : goal.absorb-requires-clause-apart
absorb-requires-clause-apart g c =
    let apart : AreApart c.self.inside.shards c.other.inside.shards =
    λ s a b. c.requires.apart s (subst (IsAmong s) (ap (λ l. l.shards) c.self.view_is) a)
    (subst (IsAmong s) (ap (λ l. l.shards) c.other.view_is) b) in
    (c.self.inside.shards, c.other.inside.shards, c.self.invariant, c.other.invariant, apart)

pub invariant_of-self-in-Ok-absorb : goal.invariant_of-self-in-Ok-absorb
invariant_of-self-in-Ok-absorb g c =
    let apart : AreApart c.self.inside.shards c.other.inside.shards =
    λ s a b. c.requires.apart s (subst (IsAmong s) (ap (λ l. l.shards) c.self.view_is) a)
    (subst (IsAmong s) (ap (λ l. l.shards) c.other.view_is) b) in
    let all : c.append.new.self ≡ c.self.inside.shards ++ c.other.inside.shards = c.in-Ok-append.ensures.ok
    ∙ ap (λ l. c.self.inside.shards ++ l) (c.in-Ok.ensures.value ∙ c.as_slice.ensures.value) in
    subst (g.T.Load.stands c.absorb.new.self) (sym all)
    (c.in-Ok-absorb.ensures.ok.1 c.self.inside.shards c.other.inside.shards c.self.invariant c.other.invariant apart)

use Rattle.std.proofs.Common.{sym, ◌∙◌}
use Rattle.std.proofs.lemmas.Slice.Eq.{starts_is}
use Rattle.std.proofs.lemmas.Bool.Decides.{Decides-eqb}
use Rattle.sz_book.proofs.machine.length_of_front.Goals as goal

pub returns-then-starts_with-clause-some : goal.returns-then-starts_with-clause-some
returns-then-starts_with-clause-some c =
    let found =
    starts_is Decides-eqb c.args.shards.now c.args.list.now c.starts_with.result c.starts_with.ensures.value in
    (c.starts_with.ensures.bound c.if-starts_with.true, found.0 c.if-starts_with.true)

pub returns-else-starts_with-clause-none : goal.returns-else-starts_with-clause-none
returns-else-starts_with-clause-none c =
    let found =
    starts_is Decides-eqb c.args.shards.now c.args.list.now c.starts_with.result c.starts_with.ensures.value in
    λ more is. absurd (cc (sym c.if-starts_with.false ∙ found.1 more is))

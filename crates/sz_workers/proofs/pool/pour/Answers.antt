use Rattle.std.proofs.Common.{◌++◌, List, ℕ, ap, sym, ◌∙◌, subst}
use Rattle.std.proofs.lemmas.Result.{on_ok_weaker}
use Rattle.sz_book_rules.specs.History.{AreApart}
use Rattle.sz_workers.specs.Parts.{HoldsShards}
use Rattle.sz_workers.proofs.pool.pour.Goals as goal

-- none of the shards is there yet
pub absorb_by-requires-clause-apart : goal.absorb_by-requires-clause-apart
absorb_by-requires-clause-apart g c κs within =
    let taken = c.take-part.ensures.value in (
      c.args.pool.now.shards,
      c.take-part.result.1,
      c.requires.holds,
      taken.1,
      subst (λ (ss : List ℕ). AreApart c.args.pool.now.shards ss) (sym taken.2) c.requires.apart,
    )

pub returns-clause-holds : goal.returns-clause-holds
returns-clause-holds g c =
    let taken = c.take-part.ensures.value in
    let apart = subst (λ (ss : List ℕ). AreApart c.args.pool.now.shards ss) (sym taken.2) c.requires.apart in
    let both =
    c.in_ok-absorb_by.ensures.ok c.args.pool.now.shards c.take-part.result.1 c.requires.holds taken.1 apart in
    on_ok_weaker c.append.result (λ is. subst (HoldsShards g.N.RoundName.job g.N.RoundName.round
    c.absorb_by.new.self.total c.absorb_by.new.self.first) (sym is) both) c.append.ensures.ok

pub returns-clause-all : goal.returns-clause-all
returns-clause-all g c =
    on_ok_weaker c.append.result
    (λ is. is ∙ ap (λ (ss : List ℕ). c.args.pool.now.shards ++ ss) c.take-part.ensures.value.2) c.append.ensures.ok

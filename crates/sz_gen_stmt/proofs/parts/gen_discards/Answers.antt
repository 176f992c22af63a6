-- One line more.
use Rattle.std.proofs.Common.{◌≡◌, subst, arith}
use Rattle.sz_gen_expr.specs.Building.{Appends, Nothing}
use Rattle.sz_gen_rules.specs.StatementCode.{discards}
use Rattle.sz_gen_stmt.proofs.SearchMade.{discards_more}
use Rattle.sz_gen_stmt.proofs.parts.gen_discards.Goals as goal

pub loop-preserved : goal.loop-preserved
loop-preserved c = discards_more c.loop.counter c.loop.invariant c.in_ok-free.ensures.made

pub returns : goal.returns
returns c =
    let all : c.loop.counter ≡ c.args.count = omega arith in
    record {
      made = subst (λ n. Appends c.args.into.now c.loop.into (λ tables at. discards n) Nothing) all c.loop.invariant;
    }

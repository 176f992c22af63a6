-- As many lines as there were turns.
use Rattle.sz_gen_expr.specs.Building.{Appends, Nothing}
use Rattle.sz_gen_rules.specs.StatementCode.{discards}
use Rattle.sz_gen_stmt.proofs.parts.gen_discards.Given as goal

abbrev pub invariant-loop : goal.invariant-loop
invariant-loop l = Appends l.fn.into l.into (λ tables at. discards l.counter) Nothing

-- The code for all candidates of one variable after the other, and of the condition after all.
use Rattle.std.proofs.Common.{map, sym, subst, arith}
use Rattle.std.proofs.lemmas.Result.{on_ok_weaker}
use Rattle.sz_core.specs.View.{node_of, quantified_of}
use Rattle.sz_gen_rules.specs.ExpressionCode.{expression_code}
use Rattle.sz_gen_expr.proofs.Builds.{after, renamed, no_more, starts, stays}
use Rattle.sz_types.proofs.ForCallers.{rest_none}
use Rattle.sz_gen_rules.specs.StatementCode.{variable_code_of}
use Rattle.sz_gen_rules.specs.SearchCode.{holds_code}
use Rattle.sz_gen_stmt.specs.Making.{AppendsHolds}
use Rattle.sz_gen_stmt.proofs.SearchMade.{all_made}
use Rattle.sz_gen_stmt.proofs.generate.+holds.Goals as goal

-- no variable is left
pub gen_holds-returns-in_default : goal.gen_holds-returns-in_default
gen_holds-returns-in_default t c = record {
  made = on_ok_weaker c.free.result
      (λ h. subst (λ vs. AppendsHolds c.args.into.now c.free.new.into c.args.place vs (node_of c.args.condition.now)
      c.args.fail)
      (sym (rest_none quantified_of c.args.variables.now 0 (omega (arith, c.in_default.len_below))))
      (renamed (λ tables n. (tt, n)) (no_more (after c.in_ok-gen_expr.ensures.made h)))) c.free.ensures.made;
}

pub gen_every-land-requires : goal.gen_every-land-requires
gen_every-land-requires t c = record {
  within = stays (stays (starts c.in_ok-entry.ensures.at c.in_ok-entry.ensures.made) c.in_ok-free.ensures.made)
      c.in_ok-free-2.ensures.made;
}

pub gen_every-land-requires-2 : goal.gen_every-land-requires-2
gen_every-land-requires-2 t c = record {
  within = stays (stays (starts c.in_ok-next.ensures.at c.in_ok-next.ensures.made) c.in_ok-gen_holds.ensures.made)
      c.in_ok-free-3.ensures.made;
}

pub gen_every-returns : goal.gen_every-returns
gen_every-returns t c = record {
  made = renamed (λ tables n. ((n.0, n.1.0), n.1.1))
      (all_made (λ tables. variable_code_of tables (quantified_of c.args.variable.now))
      (λ tables f at. holds_code c.args.place (expression_code tables (node_of c.args.condition.now))
      (map (variable_code_of tables) (map quantified_of c.args.rest.now)) f at)
      c.args.place c.in_ok-entry.entry c.here-away.result c.in_ok-next.next c.args.fail
      c.in_ok-gen_candidates.ensures.made c.in_ok-entry.ensures.at c.in_ok-entry.ensures.made
      c.here-away.ensures.value c.in_ok-free.ensures.made c.in_ok-free-2.ensures.made c.land.ensures.made
      c.in_ok-next.ensures.at c.in_ok-next.ensures.made c.in_ok-gen_holds.ensures.made c.in_ok-free-3.ensures.made
      c.land-2.ensures.made);
}

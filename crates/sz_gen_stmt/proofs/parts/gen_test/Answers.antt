use Rattle.std.proofs.Common.{sym, subst}
use Rattle.std.proofs.lemmas.Result.{on_ok_weaker}
use Rattle.sz_gen_expr.proofs.Builds.{renamed}
use Rattle.sz_gen_stmt.specs.Making.{node_if_some, AppendsTest}
use Rattle.sz_gen_stmt.proofs.parts.gen_test.Goals as goal

-- a missing test
pub returns-in-None : goal.returns-in-None
returns-in-None c = record {
  made = on_ok_weaker c.close.result
      (λ h. subst (λ o. AppendsTest c.args.into.now c.close.new.self c.args.place (node_if_some o) c.args.away)
      (sym c.in-None.is) (renamed (λ tables n. tt) h)) c.close.ensures.made;
}

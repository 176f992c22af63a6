use Rattle.std.proofs.lemmas.Result.{on_ok_weaker}
use Rattle.sz_gen_expr.proofs.Builds.{after, no_more}
use Rattle.sz_gen_stmt.proofs.parts.gen_candidates.Goals as goal

pub returns : goal.returns
returns c = record {
  made = on_ok_weaker c.free.result (λ h. no_more (after c.in_ok-gen_expr.ensures.made h)) c.free.ensures.made;
}

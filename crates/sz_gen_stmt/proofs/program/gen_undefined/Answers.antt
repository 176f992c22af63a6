use Rattle.std.proofs.lemmas.Result.{on_ok_weaker}
use Rattle.sz_gen_expr.proofs.Builds.{after, renamed}
use Rattle.sz_gen_stmt.proofs.program.gen_undefined.Goals as goal

pub returns : goal.returns
returns c = record {
  made = on_ok_weaker c.free-2.result (λ h. renamed (λ tables n. n.0)
      (after c.in_ok-push_constant.ensures.made
      (after c.in_ok-push_constant-2.ensures.made (after c.in_ok-free.ensures.made h)))) c.free-2.ensures.made;
}

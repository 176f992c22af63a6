use Rattle.std.proofs.Common.{subst, map}
use Rattle.std.proofs.lemmas.Result.{on_ok_weaker}
use Rattle.sz_core.specs.View.{node_of, step_of}
use Rattle.sz_instr.specs.declared.instr.Instr.TheVariants.{Store}
use Rattle.sz_gen_rules.specs.StatementCode.{bare_step}
use Rattle.sz_gen_expr.specs.Building.{AppendsClosed}
use Rattle.sz_gen_expr.proofs.Builds.{closed_after}
use Rattle.sz_gen_stmt.proofs.parts.gen_store.Goals as goal

pub returns : goal.returns
returns c =
    let e = node_of c.args.value.now in
    record {
      made = on_ok_weaker c.gen_closed.result
          (λ h. closed_after e (Store c.args.n (map bare_step (map step_of c.args.path.now))) c.args.place
          c.in_ok-gen_indexes.ensures.made
          (subst
          (λ steps. AppendsClosed c.gen_indexes.new.into c.gen_closed.new.into e (Store c.args.n steps) c.args.place)
          c.in_ok-steps.ensures.value h)) c.gen_closed.ensures.made;
    }

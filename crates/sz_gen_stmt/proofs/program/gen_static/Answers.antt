use Rattle.std.proofs.lemmas.Result.{on_ok_weaker}
use Rattle.sz_core.specs.View.{static_of}
use Rattle.sz_gen_stmt.proofs.Made.{static_made}
use Rattle.sz_gen_stmt.proofs.program.gen_static.Goals as goal

pub returns : goal.returns
returns c = record {
  made = on_ok_weaker c.free.result
      (λ h. static_made c.args.into.now c.begin_static.new.self c.gen_closed.new.into c.free.new.into
      (static_of c.args.held.now)
      c.in_ok-number.number c.in_ok-number.ensures.number c.in_ok-number.ensures.statics c.begin_static.ensures.lines
      c.begin_static.ensures.functions c.begin_static.ensures.constants c.begin_static.ensures.types
      c.in_ok-gen_closed.ensures.made h) c.free.ensures.made;
}

use Rattle.std.proofs.Common.{◌∙◌, subst, map}
use Rattle.std.proofs.lemmas.Result.{on_ok_weaker}
use Rattle.sz_core.specs.Statements.{stms_of}
use Rattle.sz_core.specs.View.{stm_of, function_of}
use Rattle.sz_gen_rules.specs.StatementCode.{no_exits}
use Rattle.sz_gen_stmt.specs.Making.{AppendsStms}
use Rattle.sz_gen_stmt.proofs.Made.{function_made}
use Rattle.sz_gen_stmt.proofs.program.gen_function.Goals as goal

pub returns : goal.returns
returns c = record {
  made = on_ok_weaker c.gen_undefined.result
      (λ h. function_made c.args.into.now c.begin_function.new.self c.gen_stmts.new.into c.gen_undefined.new.into
      (function_of c.args.function.now) c.in_ok-params.params c.in_ok-locals.locals
      (c.in_ok-params.ensures.value ∙ c.len.ensures.value) (c.in_ok-locals.ensures.value ∙ c.len-2.ensures.value)
      c.in_ok-begin_function.ensures.functions c.begin_function.ensures.lines c.begin_function.ensures.statics
      c.begin_function.ensures.constants c.begin_function.ensures.types
      (subst (λ ss. AppendsStms c.begin_function.new.self c.gen_stmts.new.into (stms_of (map stm_of ss)) no_exits)
      c.as_slice.ensures.value c.in_ok-gen_stmts.ensures.made) h) c.gen_undefined.ensures.made;
}

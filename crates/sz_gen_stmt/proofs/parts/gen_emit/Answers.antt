use Rattle.std.proofs.Common.{◌∙◌, subst}
use Rattle.std.proofs.lemmas.Result.{on_ok_weaker}
use Rattle.std.specs.Prelude.{is_some}
use Rattle.std.specs.Option.{option_map}
use Rattle.sz_core.specs.View.{node_of}
use Rattle.sz_instr.specs.declared.instr.Instr.TheVariants.{Emit}
use Rattle.sz_gen_expr.specs.Building.{AppendsLine, Nothing}
use Rattle.sz_gen_expr.proofs.Builds.{closed_by, three_after}
use Rattle.sz_gen_stmt.proofs.Made.{some_mapped}
use Rattle.sz_gen_stmt.proofs.parts.gen_emit.Goals as goal

pub returns : goal.returns
returns c = record {
  made = on_ok_weaker c.close.result (λ h. closed_by
      (three_after c.in_ok-gen_all.ensures.made c.in_ok-gen_expr.ensures.made c.in_ok-gen_if_some.ensures.made)
      (subst (λ n. AppendsLine c.gen_if_some.new.into c.close.new.self
      (λ tables. Emit c.args.table n (is_some (option_map node_of c.args.weight.now))) 1 c.args.place Nothing)
      c.in_ok-count.ensures.value (subst (λ b. AppendsLine c.gen_if_some.new.into c.close.new.self
      (λ tables. Emit c.args.table c.in_ok-count.count b) 1 c.args.place Nothing)
      (c.is_some.ensures ∙ some_mapped node_of c.args.weight.now) h))) c.close.ensures.made;
}

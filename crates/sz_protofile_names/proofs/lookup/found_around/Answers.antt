use Rattle.std.proofs.Common.{◌-◌, Some, sym, ap, ◌∙◌, arith}
use Rattle.std.proofs.lemmas.Option.{slice_get-get_or}
use Rattle.std.specs.Option.{option_map}
use Rattle.std.specs.String.{string_bytes}
use Rattle.sz_protofile.specs.declared.scope.Scope.{Scope}
use Rattle.sz_protofile_names.proofs.LoopLemmas.{found_at, found_past, found_none}
use Rattle.sz_protofile_names.proofs.lookup.found_around.Goals as goal

pub returns-in-Some : goal.returns-in-Some
returns-in-Some c = record {
  value = sym (found_at c.args.names.now c.args.around.now c.args.word.now c.index-around-left.result
      (option_map string_bytes c.in_ok-name.field-0) c.in_ok-name.ensures.value c.loop-left.left c.loop-left-test.true
      (slice_get-get_or c.args.around.now (c.loop-left.left - 1) _
      (omega (arith, c.loop-left.invariant.within, c.loop-left-test.true))
      ∙ ap (λ (s : Scope). Some s) (sym c.index-around-left.is))
      (string_bytes c.in-Some.name) (ap (option_map string_bytes) c.in-Some.is))
      ∙ c.loop-left.invariant.same;
}

pub loop-left-preserved : goal.loop-left-preserved
loop-left-preserved c = record {
  same = sym (found_past c.args.names.now c.args.around.now c.args.word.now c.index-around-left.result
      (option_map string_bytes c.in_ok-name.field-0) c.in_ok-name.ensures.value c.loop-left.left c.loop-left-test.true
      (slice_get-get_or c.args.around.now (c.loop-left.left - 1) _
      (omega (arith, c.loop-left.invariant.within, c.loop-left-test.true))
      ∙ ap (λ (s : Scope). Some s) (sym c.index-around-left.is))
      (ap (option_map string_bytes) c.in_default.is))
      ∙ c.loop-left.invariant.same;
  within = omega (arith, c.loop-left.invariant.within);
}

pub returns : goal.returns
returns c = record {
  value = sym (found_none c.args.names.now c.args.around.now c.args.word.now c.loop-left.left c.loop-left-test.false)
      ∙ c.loop-left.invariant.same;
}

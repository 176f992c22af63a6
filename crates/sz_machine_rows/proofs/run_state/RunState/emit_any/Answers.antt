-- The weight is popped first, if there is one.
use Rattle.std.proofs.Common.{rules, ◌≡◌, ◌∙◌, ◌≤◌, ◌+◌, true, false, length}
use Rattle.std.proofs.lemmas.Result.{IfOk-weaker}
use Rattle.sz_machine_rows.specs.Acting.{state_of}
use Rattle.sz_machine_rows.proofs.EmitLemmas.{emits_without, emits_with_weight}
use Rattle.sz_machine_rows.proofs.run_state.RunState.emit_any.Goals as goal

pub returns-then-weighted : goal.returns-then-weighted
returns-then-weighted c =
    let weighted : c.args.weighted ≡ true = search rules in
    let within : c.args.indexes + 2 ≤ length c.args.self.now.operands = rw weighted at c.requires.within in
    record {
      value = IfOk-weaker c.emit_on_top.result _ _
          (λ next does a. rw weighted (emits_with_weight c.args.code.now c.args.table c.args.indexes c.args.place
          (state_of c.args.self.now a) c.pop-weight.result
          c.pop-weight.new.self c.pop-weight.ensures.value within ∙ does a))
          c.emit_on_top.ensures.value;
    }

pub returns-else-weighted : goal.returns-else-weighted
returns-else-weighted c =
    let weighted : c.args.weighted ≡ false = search rules in
    let within : c.args.indexes + 1 ≤ length c.args.self.now.operands = rw weighted at c.requires.within in
    record {
      value = IfOk-weaker c.emit_on_top-else-weighted.result _ _
          (λ next does a. rw weighted (emits_without c.args.code.now c.args.table c.args.indexes c.args.place
          (state_of c.args.self.now a) within ∙ does a)) c.emit_on_top-else-weighted.ensures.value;
    }

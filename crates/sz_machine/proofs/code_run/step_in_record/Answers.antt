-- The line is there. A common one has its whole charge taken; of another one it is settled what is due before it acts.
use Rattle.std.proofs.Common.{rules, ◌≡◌, ◌∙◌, false, true, refl}
use Rattle.std.proofs.lemmas.Result.{IfOk-weaker}
use Rattle.sz_machine_rows.specs.Acting.{state_of, Paid}
use Rattle.sz_machine.specs.AtLines.{in_record, base_charge}
use Rattle.sz_machine.proofs.RunLemmas.{is_covered}
use Rattle.sz_machine.proofs.StepLemmas.{line_goes, line_goes_whole, line_faults, settled, still_covered}
use Rattle.sz_machine.proofs.code_run.step_in_record.Goals as goal
use Rattle.sz_machine.proofs.code_run.step_in_record.Goals.{then-paid+in_default, else-paid}

pub act_quickly-requires-clause-covers : goal.act_quickly-requires-clause-covers
act_quickly-requires-clause-covers c =
    let line = c.line_at-line.result.now in
    let old = c.args.state.now in
    let a = in_record c.args.at c.args.statics.now c.args.input.now in
    record {
      around = a;
      covers = still_covered c.args.code.now line old a a
          c.from.result c.pay-paid.result c.pay-paid.new.self c.pay-paid.ensures.value
          (is_covered c.args.code.now (state_of old a) line c.line_at-line.ensures.value c.requires.ends);
    }

pub returns-in-Some : goal.returns-in-Some
returns-in-Some c =
    let line = c.line_at-line.result.now in
    let old = c.args.state.now in
    let a = in_record c.args.at c.args.statics.now c.args.input.now in
    let paid : Paid line.charge old true c.pay-paid.new.self = search rules in
    record {
      value = line_goes_whole c.args.code.now line old a a
          c.pay-paid.new.self c.act_quickly.new.state c.in-Some.next c.line_at-line.ensures.value
          c.in-Some.ensures.common paid (c.in-Some.ensures.done line.place a (refl, refl));
    }

pub returns-then-not-settle : goal.returns-then-not-settle
returns-then-not-settle c =
    let line = c.line_at-line.result.now in
    let old = c.args.state.now in
    let a = in_record c.args.at c.args.statics.now c.args.input.now in
    let same : c.if-paid.state ≡ c.pay-paid.new.self = elim c.if-paid.branch [
      | then-paid+in_default w ↦ search rules
      | else-paid w ↦ search rules
    ] in
    let taken : Paid line.charge old c.pay-paid.result c.if-paid.state = search rules in
    let due =
    settled c.args.code.now line old a a c.if-paid.state c.settle.new.state c.pay-paid.result c.settle.result taken
    (λ no. same ∙ c.pay-paid.ensures.left no) c.settle.ensures.value in
    record {
      value = line_faults c.args.code.now line old a a c.settle.new.state c.line_at-line.ensures.value
          (rw (← c.if-not-settle.true) due);
    }

pub act_in_record-requires-clause-covers : goal.act_in_record-requires-clause-covers
act_in_record-requires-clause-covers c =
    let line = c.line_at-line.result.now in
    let old = c.args.state.now in
    let a = in_record c.args.at c.args.statics.now c.args.input.now in
    let same : c.if-paid.state ≡ c.pay-paid.new.self = elim c.if-paid.branch [
      | then-paid+in_default w ↦ search rules
      | else-paid w ↦ search rules
    ] in
    let taken : Paid line.charge old c.pay-paid.result c.if-paid.state = search rules in
    let due =
    settled c.args.code.now line old a a c.if-paid.state c.settle.new.state c.pay-paid.result c.settle.result taken
    (λ no. same ∙ c.pay-paid.ensures.left no) c.settle.ensures.value in
    still_covered c.args.code.now line old a a
    (base_charge line.charge line.instr old.calls.lists) c.settle.result c.settle.new.state due
    (is_covered c.args.code.now (state_of old a) line c.line_at-line.ensures.value c.requires.ends)

pub returns : goal.returns
returns c =
    let line = c.line_at-line.result.now in
    let old = c.args.state.now in
    let a = in_record c.args.at c.args.statics.now c.args.input.now in
    let same : c.if-paid.state ≡ c.pay-paid.new.self = elim c.if-paid.branch [
      | then-paid+in_default w ↦ search rules
      | else-paid w ↦ search rules
    ] in
    let taken : Paid line.charge old c.pay-paid.result c.if-paid.state = search rules in
    let due =
    settled c.args.code.now line old a a c.if-paid.state c.settle.new.state c.pay-paid.result c.settle.result taken
    (λ no. same ∙ c.pay-paid.ensures.left no) c.settle.ensures.value in
    record {
      value = IfOk-weaker c.act_in_record.result _ _
          (λ next does. line_goes c.args.code.now line old a a c.settle.new.state c.act_in_record.new.state next
          c.line_at-line.ensures.value (rw (← c.if-not-settle.false) due) does)
          c.act_in_record.ensures.value;
    }

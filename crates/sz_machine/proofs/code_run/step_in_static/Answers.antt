-- The line is there, and its charge is taken before it acts.
use Rattle.std.proofs.Common.{rules, true}
use Rattle.std.proofs.lemmas.Result.{IfOk-weaker}
use Rattle.sz_machine_rows.specs.Acting.{state_of, Paid}
use Rattle.sz_machine.specs.AtLines.{in_static, base_charge}
use Rattle.sz_machine.proofs.RunLemmas.{is_covered}
use Rattle.sz_machine.proofs.StepLemmas.{line_goes, still_covered}
use Rattle.sz_machine.proofs.code_run.step_in_static.Goals as goal

pub act_in_static-requires-clause-covers : goal.act_in_static-requires-clause-covers
act_in_static-requires-clause-covers c =
    let line = c.line_at-line.result.now in
    let old = c.args.state.now in
    let a = (in_static c.args.at c.args.statics.now) in
    let paid : Paid (base_charge line.charge line.instr old.calls.lists) old true c.pay.new.self = search rules in
    still_covered c.args.code.now line old a a
    (base_charge line.charge line.instr old.calls.lists) true c.pay.new.self paid
    (is_covered c.args.code.now (state_of old a) line c.line_at-line.ensures.value c.requires.ends)

pub returns : goal.returns
returns c =
    let line = c.line_at-line.result.now in
    let old = c.args.state.now in
    let paid : Paid (base_charge line.charge line.instr old.calls.lists) old true c.pay.new.self = search rules in
    record {
      value = IfOk-weaker c.act_in_static.result _ _
          (λ next does. line_goes c.args.code.now line old (in_static c.args.at c.args.statics.now)
          (in_static c.args.at c.act_in_static.new.statics) c.pay.new.self c.act_in_static.new.state next
          c.line_at-line.ensures.value paid does) c.act_in_static.ensures.value;
    }

-- Each line leads on towards the end.
use Rattle.std.proofs.Common.{rules, arith, ◌≡◌, ◌+◌, refl, subst}
use Rattle.sz_machine_rows.specs.declared.run_state.Onward.TheVariants.{On, To, End, Fault}
use Rattle.sz_machine_rows.specs.Acting.{state_of, world_of}
use Rattle.sz_machine.specs.AtLines.{in_record}
use Rattle.sz_machine.specs.CodeRuns.{LineDoes}
use Rattle.sz_machine.proofs.RunLemmas.{is_within, ends_still, on_within, to_within, on_less, to_less, halts_there, faults_there, done_there, faulted_there}
use Rattle.sz_machine.proofs.code_run.run_record.Goals as goal

pub line_at-line-requires : goal.line_at-line-requires
line_at-line-requires c =
    let now = state_of c.loop-at.state (in_record c.loop-at.at c.args.statics.now c.args.input.now) in
    record {
      within = is_within c.args.code.now now (ends_still c.args.code.now (state_of c.args.state.now
          (in_record c.args.start c.args.statics.now c.args.input.now)) now c.requires.ends c.loop-at.invariant.way);
    }

pub returns-in-End : goal.returns-in-End
returns-in-End c =
    let code = c.args.code.now in
    let line = c.line_at-line.result.now in
    let new = c.step_in_record.new.state in
    let is : c.in_ok-step_in_record.field-0 ≡ End = search rules in
    let does : LineDoes code (in_record c.loop-at.at c.args.statics.now c.args.input.now)
    (in_record c.loop-at.at c.args.statics.now c.args.input.now) c.loop-at.state End new =
    subst (λ n. LineDoes code (in_record c.loop-at.at c.args.statics.now c.args.input.now) (in_record c.loop-at.at
    c.args.statics.now c.args.input.now) c.loop-at.state n new) is c.in_ok-step_in_record.ensures.value in
    let same : c.hand_over.result ≡ new.emits = search rules in
    record {
      value = λ x over comes. done_there (world_of new) c.args.statics.now c.hand_over.result same x
          (halts_there code (state_of c.args.state.now (in_record c.args.start c.args.statics.now c.args.input.now))
          (in_record c.loop-at.at c.args.statics.now c.args.input.now)
          (in_record c.loop-at.at c.args.statics.now c.args.input.now) c.loop-at.state new line
          c.line_at-line.ensures.value does c.loop-at.invariant.way x over comes);
    }

pub returns-in-Fault : goal.returns-in-Fault
returns-in-Fault c =
    let code = c.args.code.now in
    let line = c.line_at-line.result.now in
    let new = c.step_in_record.new.state in
    let is : c.in_ok-step_in_record.field-0 ≡ (Fault c.in-Fault.kind) = search rules in
    let does : LineDoes code (in_record c.loop-at.at c.args.statics.now c.args.input.now)
    (in_record c.loop-at.at c.args.statics.now c.args.input.now) c.loop-at.state (Fault c.in-Fault.kind) new =
    subst (λ n. LineDoes code (in_record c.loop-at.at c.args.statics.now c.args.input.now) (in_record c.loop-at.at
    c.args.statics.now c.args.input.now) c.loop-at.state n new) is c.in_ok-step_in_record.ensures.value in
    record {
      value = λ x over comes. faulted_there (record { kind = c.in-Fault.kind; place = line.place }) x
          (faults_there code (state_of c.args.state.now (in_record c.args.start c.args.statics.now c.args.input.now))
          (in_record c.loop-at.at c.args.statics.now c.args.input.now)
          (in_record c.loop-at.at c.args.statics.now c.args.input.now) c.loop-at.state new line
          c.in-Fault.kind c.line_at-line.ensures.value does c.loop-at.invariant.way x over comes);
    }

pub loop-at-preserved-in-On : goal.loop-at-preserved-in-On
loop-at-preserved-in-On c =
    let code = c.args.code.now in
    let line = c.line_at-line.result.now in
    let new = c.step_in_record.new.state in
    let is : c.in_ok-step_in_record.field-0 ≡ On = search rules in
    let does : LineDoes code (in_record c.loop-at.at c.args.statics.now c.args.input.now)
    (in_record c.loop-at.at c.args.statics.now c.args.input.now) c.loop-at.state On new =
    subst (λ n. LineDoes code (in_record c.loop-at.at c.args.statics.now c.args.input.now) (in_record c.loop-at.at
    c.args.statics.now c.args.input.now) c.loop-at.state n new) is c.in_ok-step_in_record.ensures.value in
    on_within code (state_of c.args.state.now (in_record c.args.start c.args.statics.now c.args.input.now))
    (in_record c.loop-at.at c.args.statics.now c.args.input.now)
    (in_record c.loop-at.at c.args.statics.now c.args.input.now) c.loop-at.state new line c.args.asked.now.lines.0
    (c.loop-at.at + 1) c.line_at-line.ensures.value does (omega arith) c.loop-at.invariant

pub loop-at-preserved : goal.loop-at-preserved
loop-at-preserved c =
    let code = c.args.code.now in
    let line = c.line_at-line.result.now in
    let new = c.step_in_record.new.state in
    let is : c.in_ok-step_in_record.field-0 ≡ (To c.in-To.to) = search rules in
    let does : LineDoes code (in_record c.loop-at.at c.args.statics.now c.args.input.now)
    (in_record c.loop-at.at c.args.statics.now c.args.input.now) c.loop-at.state (To c.in-To.to) new =
    subst (λ n. LineDoes code (in_record c.loop-at.at c.args.statics.now c.args.input.now) (in_record c.loop-at.at
    c.args.statics.now c.args.input.now) c.loop-at.state n new) is c.in_ok-step_in_record.ensures.value in
    to_within code (state_of c.args.state.now (in_record c.args.start c.args.statics.now c.args.input.now))
    (in_record c.loop-at.at c.args.statics.now c.args.input.now)
    (in_record c.loop-at.at c.args.statics.now c.args.input.now) c.loop-at.state new line c.args.asked.now.lines.0
    c.in-To.to c.in-To.to c.line_at-line.ensures.value does refl c.loop-at.invariant

pub loop-at-smaller-in-On : goal.loop-at-smaller-in-On
loop-at-smaller-in-On c =
    let code = c.args.code.now in
    let line = c.line_at-line.result.now in
    let new = c.step_in_record.new.state in
    let is : c.in_ok-step_in_record.field-0 ≡ On = search rules in
    let does : LineDoes code (in_record c.loop-at.at c.args.statics.now c.args.input.now)
    (in_record c.loop-at.at c.args.statics.now c.args.input.now) c.loop-at.state On new =
    subst (λ n. LineDoes code (in_record c.loop-at.at c.args.statics.now c.args.input.now) (in_record c.loop-at.at
    c.args.statics.now c.args.input.now) c.loop-at.state n new) is c.in_ok-step_in_record.ensures.value in
    on_less code (state_of c.args.state.now (in_record c.args.start c.args.statics.now c.args.input.now))
    (in_record c.loop-at.at c.args.statics.now c.args.input.now)
    (in_record c.loop-at.at c.args.statics.now c.args.input.now) c.loop-at.state new line c.args.asked.now.lines.0
    (c.loop-at.at + 1) c.line_at-line.ensures.value does (omega arith) c.loop-at.invariant

pub loop-at-smaller : goal.loop-at-smaller
loop-at-smaller c =
    let code = c.args.code.now in
    let line = c.line_at-line.result.now in
    let new = c.step_in_record.new.state in
    let is : c.in_ok-step_in_record.field-0 ≡ (To c.in-To.to) = search rules in
    let does : LineDoes code (in_record c.loop-at.at c.args.statics.now c.args.input.now)
    (in_record c.loop-at.at c.args.statics.now c.args.input.now) c.loop-at.state (To c.in-To.to) new =
    subst (λ n. LineDoes code (in_record c.loop-at.at c.args.statics.now c.args.input.now) (in_record c.loop-at.at
    c.args.statics.now c.args.input.now) c.loop-at.state n new) is c.in_ok-step_in_record.ensures.value in
    to_less code (state_of c.args.state.now (in_record c.args.start c.args.statics.now c.args.input.now))
    (in_record c.loop-at.at c.args.statics.now c.args.input.now)
    (in_record c.loop-at.at c.args.statics.now c.args.input.now) c.loop-at.state new line c.args.asked.now.lines.0
    c.in-To.to c.in-To.to c.line_at-line.ensures.value does refl c.loop-at.invariant

-- The statics are run one after the other.
use Rattle.std.proofs.Common.{List, ◌∷◌, rules, arith, ◌≡◌, ◌≤◌, ◌+◌, suc, length, drop, Some, None, refl, subst}
use Rattle.sz_world_rules.specs.World.{Outcome}
use Rattle.sz_world_rules.specs.Slots.{Slot}
use Rattle.sz_instr.specs.Runs.{StaticsRunTo, RoutinesRunTo}
use Rattle.sz_machine_rows.specs.Acting.{state_of, world_of}
use Rattle.sz_machine.specs.AtLines.{in_static}
use Rattle.sz_machine.specs.CodeRuns.{OfEnds, EndsSo}
use Rattle.sz_machine.proofs.RunLemmas.{begun, at_routine, at_routine_within, none_left, static_ends, static_within, others_within, statics_go_on, statics_fault}
use Rattle.sz_machine.proofs.code_run.run_each.Goals as goal

pub run_static-requires : goal.run_static-requires
run_static-requires c =
    let code = c.args.code.now in
    let r = c.get-routine.result.now in
    let w = world_of c.loop-i.state in
    let h = c.begin.new.state in
    let is : h ≡ begun r w = search rules in
    let o = c.requires.ends.outcome in
    let runs = at_routine code c.loop-i.i (suc c.loop-i.i) r w c.loop-i.statics o c.get-routine.ensures.value refl
    (c.loop-i.invariant.way o c.requires.ends.ends) in
    record {
      ends = static_ends code r (drop (suc c.loop-i.i) code.statics) w c.loop-i.statics o h is runs;
      within = static_within code r
          (drop (suc c.loop-i.i) code.statics) w c.loop-i.statics o h is runs c.args.asked.now.lines.0
          (at_routine_within code c.loop-i.i (suc c.loop-i.i) c.args.asked.now.lines.0 r w
          c.loop-i.statics c.get-routine.ensures.value refl c.loop-i.invariant.within);
    }

pub returns-in-Some : goal.returns-in-Some
returns-in-Some c =
    let code = c.args.code.now in
    let r = c.get-routine.result.now in
    let w = world_of c.loop-i.state in
    let h = c.begin.new.state in
    let is : h ≡ begun r w = search rules in
    let so : c.in_ok-fault.field-0 ≡ Some c.in-Some.fault = search rules in
    let ends : OfEnds code (state_of h (in_static r.entry c.loop-i.statics))
    (EndsSo (Some c.in-Some.fault) (world_of c.run_static.new.state) c.run_static.new.statics) =
    subst (λ f. OfEnds code (state_of h (in_static r.entry c.loop-i.statics))
    (EndsSo f (world_of c.run_static.new.state) c.run_static.new.statics)) so
    c.in_ok-fault.ensures.value in
    record {
      value = λ o all.
          let runs = at_routine code c.loop-i.i (suc c.loop-i.i) r w c.loop-i.statics o
          c.get-routine.ensures.value refl (c.loop-i.invariant.way o all) in
          statics_fault code r (drop (suc c.loop-i.i) code.statics) w c.loop-i.statics o h is runs c.in-Some.fault
          (world_of c.run_static.new.state) c.run_static.new.statics ends;
    }

pub loop-i-preserved : goal.loop-i-preserved
loop-i-preserved c =
    let code = c.args.code.now in
    let r = c.get-routine.result.now in
    let w = world_of c.loop-i.state in
    let h = c.begin.new.state in
    let m = c.loop-i.i + 1 in
    let is : h ≡ begun r w = search rules in
    let so : c.in_ok-fault.field-0 ≡ None = search rules in
    let ends : OfEnds code (state_of h (in_static r.entry c.loop-i.statics))
    (EndsSo None (world_of c.run_static.new.state) c.run_static.new.statics) =
    subst (λ f. OfEnds code (state_of h (in_static r.entry c.loop-i.statics))
    (EndsSo f (world_of c.run_static.new.state) c.run_static.new.statics)) so
    c.in_ok-fault.ensures.value in
    let here : (o : Outcome (List Slot)) → StaticsRunTo code c.args.budget o
    → RoutinesRunTo code (r ∷ drop m code.statics) w c.loop-i.statics o =
    λ o all. at_routine code c.loop-i.i m r w c.loop-i.statics o c.get-routine.ensures.value (omega arith)
    (c.loop-i.invariant.way o all) in
    let o = c.requires.ends.outcome in
    record {
      way = λ o all. statics_go_on code r (drop m code.statics) w c.loop-i.statics o h is (here o all)
          (world_of c.run_static.new.state) c.run_static.new.statics ends;
      within = others_within code r (drop m code.statics) w c.loop-i.statics o h is
          (here o c.requires.ends.ends) c.args.asked.now.lines.0
          (world_of c.run_static.new.state) c.run_static.new.statics ends
          (at_routine_within code c.loop-i.i m c.args.asked.now.lines.0 r w
          c.loop-i.statics c.get-routine.ensures.value (omega arith) c.loop-i.invariant.within);
    }

pub returns : goal.returns
returns c =
    let past : length c.args.code.now.statics ≤ c.loop-i.i = search rules in
    record {
      value = λ o all. none_left c.args.code.now c.loop-i.i (world_of c.loop-i.state) c.loop-i.statics o past
          (c.loop-i.invariant.way o all);
    }

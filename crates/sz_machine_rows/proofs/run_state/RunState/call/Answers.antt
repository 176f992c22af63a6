-- The call is made, with its arguments.
use Rattle.std.proofs.Common.{rules, ◌≡◌, ◌<◌, suc, ◌+◌, true, length, is_some, sym, arith}
use Rattle.sz_world_rules.specs.Slots.{all_defined}
use Rattle.sz_instr.specs.States.{popped}
use Rattle.sz_machine_rows.specs.Acting.{state_of}
use Rattle.sz_machine_rows.proofs.FlowLemmas.{call_enters}
use Rattle.sz_machine_rows.proofs.run_state.RunState.call.Goals as goal

pub returns : goal.returns
returns c =
    let r = c.args.routine.now in
    let defined : is_some (all_defined (popped r.params c.args.self.now.operands)) ≡ true = search rules in
    let room : length c.args.self.now.calls.callers < 128 = search rules in
    record {
      value = λ place a at.
          let back : suc a.at ≡ c.args.at + 1 = omega (arith, at) in
          rw c.in_ok-enter.ensures.value (rw c.in_ok-enter.ensures.operands
          (rw (sym back) (call_enters r place (state_of c.args.self.now a) c.requires.within defined room)));
    }

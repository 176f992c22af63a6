-- The parts are paid, and then emitted.
use Rattle.std.proofs.Common.{rules}
use Rattle.sz_machine_rows.proofs.EmitLemmas.{top_paid}
use Rattle.sz_machine_rows.proofs.run_state.RunState.emit_on_top.Goals as goal

pub returns : goal.returns
returns c =
    let does = c.in_ok-emit_made.ensures.value in
    record { value = λ a. let done = does a in search (rules, top_paid, done) }

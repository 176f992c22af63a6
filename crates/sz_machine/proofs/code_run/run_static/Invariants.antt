-- The state is on the way from the first one to its end, and each line leaves fewer.
use Rattle.sz_instr.specs.States.{Goes}
use Rattle.sz_machine_rows.specs.Acting.{state_of}
use Rattle.sz_machine.specs.AtLines.{in_static}
use Rattle.sz_machine.specs.LinesLeft.{IsOnTheWayWithin, lines_left}
use Rattle.sz_machine.proofs.code_run.run_static.Given as goal

abbrev pub invariant-loop-at : goal.invariant-loop-at
invariant-loop-at l =
    IsOnTheWayWithin l.code l.asked.lines.0 (state_of l.initial.state (in_static l.fn.start l.initial.statics))
    (state_of l.state (in_static l.at l.statics))

abbrev pub decreases-loop-at : goal.decreases-loop-at
decreases-loop-at l = lines_left l.code l.asked.lines.0 (Goes (state_of l.state (in_static l.at l.statics)))

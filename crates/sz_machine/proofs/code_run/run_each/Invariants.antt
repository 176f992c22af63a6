-- However the run of all statics ends, the run of those that are left does.
use Rattle.std.proofs.Common.{drop}
use Rattle.sz_machine_rows.specs.Acting.{world_of}
use Rattle.sz_machine.specs.LinesLeft.{AreOnTheWayWithin}
use Rattle.sz_machine.proofs.code_run.run_each.Given as goal

abbrev pub invariant-loop-i : goal.invariant-loop-i
invariant-loop-i l =
    AreOnTheWayWithin l.code l.fn.budget l.asked.lines.0 (drop l.i l.code.statics) (world_of l.state) l.statics

-- All lines are in range exactly where those that are still to come are.
use Rattle.std.proofs.Common.{◌≡◌, drop}
use Rattle.std.specs.List.{list_all}
use Rattle.sz_instr.specs.WellFormed.{is_in_range}
use Rattle.sz_instr.proofs.range.are_in_range.Given as goal

abbrev pub invariant-loop-line : goal.invariant-loop-line
invariant-loop-line l =
    let all = λ (lines : _). list_all (λ line. is_in_range l.code line.instr) lines in
    all (drop l.line-index l.lines) ≡ all l.lines

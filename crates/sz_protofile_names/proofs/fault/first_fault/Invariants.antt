use Rattle.std.proofs.Common.{◌≡◌, drop}
use Rattle.sz_protofile.specs.Names.{spelled}
use Rattle.sz_protofile.specs.Faults.{first_fault, nothing_before}
use Rattle.sz_protofile_names.specs.Seen.{seen_before}
use Rattle.sz_protofile_names.proofs.fault.first_fault.Given as goal

-- nothing is wrong so far: what is wrong with the rest behind it is what is wrong with all lines
abbrev pub invariant-loop-line : goal.invariant-loop-line
invariant-loop-line l = first_fault (spelled l.bytes) l.known (seen_before l.before) (drop l.line-index l.lines)
    ≡ first_fault (spelled l.bytes) l.known nothing_before l.lines

use Rattle.std.proofs.Common.{◌≡◌, ◌≤◌, drop, []}
use Rattle.sz_protofile.specs.Names.{spelled}
use Rattle.sz_protofile.specs.Lookup.{names_in}
use Rattle.sz_protofile_names.proofs.known.names_in.Given as goal

-- the names so far, and those of the rest inside the messages that are open, are those of all lines; no more messages
-- are counted than lines
abbrev pub invariant-loop-line : goal.invariant-loop-line
invariant-loop-line l =
    (names_in (spelled l.bytes) l.names l.around.items l.again (drop l.line-index l.lines)
    ≡ names_in (spelled l.bytes) [] [] 0 l.lines) × l.again ≤ l.line-index

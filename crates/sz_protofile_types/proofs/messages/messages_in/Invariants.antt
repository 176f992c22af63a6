use Rattle.std.proofs.Common.{◌≡◌, ◌++◌, drop, []}
use Rattle.sz_protofile.specs.Names.{spelled, messages_in}
use Rattle.sz_protofile_types.proofs.messages.messages_in.Given as goal

-- the messages so far, and those of the rest, are those of all lines
abbrev pub invariant-loop-line : goal.invariant-loop-line
invariant-loop-line l =
    l.messages.items ++ messages_in (spelled l.bytes) l.around.items (drop l.line-index l.lines)
    ≡ messages_in (spelled l.bytes) [] l.lines

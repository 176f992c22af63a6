use Rattle.std.proofs.Common.{◌≡◌, drop, []}
use Rattle.sz_protofile.specs.Names.{spelled}
use Rattle.sz_protofile.specs.Lookup.{message_names_in}
use Rattle.sz_protofile_types.proofs.messages.message_names.Given as goal

-- the names so far, and those of the rest inside the messages that are open, are those of all lines
abbrev pub invariant-loop-line : goal.invariant-loop-line
invariant-loop-line l =
    message_names_in (spelled l.bytes) l.names l.around.items (drop l.line-index l.lines)
    ≡ message_names_in (spelled l.bytes) [] [] l.lines

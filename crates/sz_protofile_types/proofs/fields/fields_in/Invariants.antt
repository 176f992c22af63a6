use Rattle.std.proofs.Common.{◌≡◌, ◌++◌, drop, []}
use Rattle.sz_protofile.specs.Names.{spelled}
use Rattle.sz_protofile.specs.Fields.{fields_in}
use Rattle.sz_protofile_types.proofs.fields.fields_in.Given as goal

-- the fields so far, and those of the rest, are those of all lines
abbrev pub invariant-loop-line : goal.invariant-loop-line
invariant-loop-line l =
    l.fields.items ++ fields_in (spelled l.bytes) l.known l.messages l.around.items (drop l.line-index l.lines)
    ≡ fields_in (spelled l.bytes) l.known l.messages [] l.lines

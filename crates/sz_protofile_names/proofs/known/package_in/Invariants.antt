use Rattle.std.proofs.Common.{◌≡◌, drop, None, option_copied}
use Rattle.sz_protofile.specs.Names.{spelled}
use Rattle.sz_protofile.specs.Lookup.{package_in}
use Rattle.sz_protofile_names.proofs.known.package_in.Given as goal

-- the rest, behind the package named last so far, names what all lines name
abbrev pub invariant-loop-line : goal.invariant-loop-line
invariant-loop-line l = package_in (spelled l.bytes) (option_copied l.last) (drop l.line-index l.lines)
    ≡ package_in (spelled l.bytes) None l.lines

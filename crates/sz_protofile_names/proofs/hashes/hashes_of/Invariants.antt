use Rattle.std.proofs.Common.{◌≡◌, [], drop, map}
use Rattle.std.specs.String.{string_bytes}
use Rattle.sz_protofile_names.specs.Hashes.{with_hashes}
use Rattle.sz_protofile_names.proofs.hashes.hashes_of.Given as goal

-- the hashes so far, with those of the names that are left, are those of all
abbrev pub invariant-loop-name : goal.invariant-loop-name
invariant-loop-name l = with_hashes l.hashes.keys (map string_bytes (drop l.name-index l.names))
    ≡ with_hashes [] (map string_bytes l.names)

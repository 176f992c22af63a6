use Rattle.std.proofs.Common.{◌≡◌, drop}
use Rattle.sz_protofile_names.specs.Hashes.{hash_on}
use Rattle.sz_protofile_names.proofs.hashes.hash_on.Given as goal

-- the hash so far, with the bytes that are left, is that of all
abbrev pub invariant-loop-byte : goal.invariant-loop-byte
invariant-loop-byte l = hash_on l.all (drop l.byte-index l.text) ≡ hash_on l.hash l.text

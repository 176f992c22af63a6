-- The sum is that of the bytes so far.
use Rattle.std.proofs.Common.{◌≡◌, take, fold}
use Rattle.sz_flat.specs.Digest.{mixed}
use Rattle.sz_flat.proofs.digest.digest_of.Given as goal

abbrev pub invariant-loop-byte : goal.invariant-loop-byte
invariant-loop-byte l = l.sum ≡ fold mixed 0 (take l.byte-index l.bytes)

-- What is appended.
use Rattle.std.proofs.Common.{◌≡◌, ℕ, drop, refl}
use Rattle.std.specs.Int.{w64, to_be_bytes}
use Rattle.sz_flat.specs.Spelling.{length_bytes}

-- the low four bytes of a count are those of a length
pub low_bytes : (n : ℕ) → drop 4 (to_be_bytes w64 n) ≡ length_bytes n
low_bytes n = refl

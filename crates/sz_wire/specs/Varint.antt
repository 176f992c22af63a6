-- Varints: seven bits in each byte, the low ones first; the top bit of a byte says that another follows.
use Rattle.std.specs.Prelude.{ℕ, zero, suc, ◌+◌, ◌*◌, ◌-◌, ◌%◌, ◌^◌, List, [], ◌∷◌, Option, Some, None, nat_lt, if◌then◌else◌}

-- a byte with its top bit, in front of a number of more bits and of what follows that
abbrev pub low_bits : ℕ → Option (ℕ × List ℕ) → Option (ℕ × List ℕ)
low_bits b None = None
low_bits b (Some found) = Some (b - 128 + 128 * found.0, found.1)

-- the number with all its bits that at most so many bytes at the front spell, and what follows it
unfoldable pub number_at : ℕ → List ℕ → Option (ℕ × List ℕ)
number_at zero bytes = None
number_at (suc most) [] = None
number_at (suc most) (b ∷ bytes) = if nat_lt b 128 then Some (b, bytes) else low_bits b (number_at most bytes)

-- the low 64 bits of a number, and what follows it
abbrev pub in_64_bits : Option (ℕ × List ℕ) → Option (ℕ × List ℕ)
in_64_bits None = None
in_64_bits (Some found) = Some (found.0 % 2 ^ 64, found.1)

-- the varint at the front, and what follows it: at most ten bytes, of which bits past 64 are dropped
unfoldable pub varint_at : List ℕ → Option (ℕ × List ℕ)
varint_at bytes = in_64_bits (number_at 10 bytes)

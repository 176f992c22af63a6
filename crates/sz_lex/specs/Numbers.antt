-- The numbers.
use Rattle.std.specs.Prelude.{ℕ, ℤ, pos, ◌+◌, ◌*◌, ◌^◌, List, [], ◌∷◌, Option, Some, None, nat_lt, ◌==◌, if◌then◌else◌}
use Rattle.std.specs.Char.{digit_value}
use Rattle.std.specs.Int.{w64, cast_signed}
use Rattle.std.specs.Option.{option_map}

-- the number that n becomes when these digits to this base are written after it, if each is such a digit
abbrev pub digits_from : ℕ → ℕ → List ℕ → Option ℕ
digits_from base n [] = Some n
digits_from base n (b ∷ bs) =
    if nat_lt (digit_value b) base then digits_from base (n * base + digit_value b) bs else None

-- the number, if there is one and it is below the limit
abbrev pub below : ℕ → Option ℕ → Option ℕ
below limit None = None
below limit (Some n) = if nat_lt n limit then Some n else None

-- the number that decimal digits spell, at most 2^63 - 1
abbrev pub decimal : List ℕ → Option ℤ
decimal digits = option_map pos (below (2 ^ 63) (digits_from 10 0 digits))

-- the number below 2^64 that one or more hexadecimal digits spell, read as 64 bits with a sign
abbrev pub hexadecimal : List ℕ → Option ℤ
hexadecimal [] = None
hexadecimal (d ∷ ds) = option_map (cast_signed w64) (below (2 ^ 64) (digits_from 16 0 (d ∷ ds)))

-- the number that a run spells: one decimal digit, or several of which the first is not 0, or 0x and hexadecimal digits
abbrev pub number_of : List ℕ → Option ℤ
number_of [] = None
number_of (b ∷ []) = decimal (b ∷ [])
number_of (b ∷ c ∷ ds) = if b == 48 then (if c == 120 then hexadecimal ds else None) else decimal (b ∷ c ∷ ds)

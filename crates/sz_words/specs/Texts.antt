-- Texts cut at a byte, and the numbers that texts write.
use Rattle.std.specs.Prelude.{ℕ, List, length, ◌&&◌, nat_eq, nat_le, Option, Some, None, if◌then◌else◌}
use Rattle.std.specs.List.{slice_split}
use Rattle.std.specs.Str.Parse.{digits_value}
pub use Rattle.sz_types.specs.Numerals.{is_numeral}

-- the pieces of a text before, between and after the places of a byte
abbrev pub pieces : ℕ → List ℕ → List (List ℕ)
pieces mark text = slice_split (λ b. nat_eq b mark) text

-- the number from `least` to `most` that a text of 1 to 20 decimal digits writes; zeros may stand in front
abbrev pub number_in : ℕ → ℕ → List ℕ → Option ℕ
number_in least most text =
    let value = digits_value 10 text in
    if nat_le (length text) 20 && (is_numeral text && nat_le value most) && nat_le least value then Some value else None

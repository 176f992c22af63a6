-- What a value becomes by a conversion to a type. A type that converts to itself keeps the value.
use Rattle.std.specs.Prelude.{ℕ, ◌^◌, ℤ, pos, negsuc, List, Bool, ◌&&◌, Option, Some, None, nat_lt, if◌then◌else◌, option_map, codes}
use Rattle.std.specs.Fmt.{signed_decimal}
use Rattle.std.specs.Str.{is_utf8}
use Rattle.std.specs.Str.Parse.{signed_digits_value, without_leading_sign}
use Rattle.sz_types.specs.Data.{Shape}
use Rattle.sz_types.specs.Numerals.{is_numeral}
use Rattle.sz_value.specs.Data.{Datum, truth, int, time, str, bytes}

-- whether the number has 64 bits and a sign
abbrev pub fits : ℤ → Bool
fits (pos n) = nat_lt n (2 ^ 63)
fits (negsuc n) = nat_lt n (2 ^ 63)

-- the number that a text spells: an optional sign and then digits alone, within 64 bits with a sign
abbrev pub number_in : List ℕ → Option ℤ
number_in text =
    let value = signed_digits_value 10 text in
    if is_numeral (without_leading_sign text) && fits value then Some value else None

-- as a truth value
abbrev pub as_truth : Datum → Option Datum
as_truth (truth b) = Some (truth b)
as_truth _ = None

-- as a whole number: 1 for true and 0 for false, the number of a time, or the number that the text or the bytes spell
abbrev pub as_int : Datum → Option Datum
as_int (truth b) = Some (int (if b then pos 1 else pos 0))
as_int (int n) = Some (int n)
as_int (time n) = Some (int n)
as_int (str s) = option_map int (number_in s)
as_int (bytes s) = option_map int (number_in s)
as_int _ = None

-- as a time, which has the same number
abbrev pub as_time : Datum → Option Datum
as_time (int n) = Some (time n)
as_time (time n) = Some (time n)
as_time _ = None

-- as a string: `true` or `false`, a number in decimal, or the text that the bytes are in UTF-8
abbrev pub as_str : Datum → Option Datum
as_str (truth b) = Some (str (if b then codes "true" else codes "false"))
as_str (int n) = Some (str (signed_decimal n))
as_str (str s) = Some (str s)
as_str (bytes s) = if is_utf8 s then Some (str s) else None
as_str _ = None

-- as bytes, which are those of a text in UTF-8
abbrev pub as_bytes : Datum → Option Datum
as_bytes (str s) = Some (bytes s)
as_bytes (bytes s) = Some (bytes s)
as_bytes _ = None

-- what the value becomes; to a type with parts nothing converts but a value of that type
abbrev pub convert : Datum → Shape → Option Datum
convert d Shape.truth = as_truth d
convert d Shape.int = as_int d
convert d Shape.time = as_time d
convert d Shape.str = as_str d
convert d Shape.bytes = as_bytes d
convert d _ = Some d

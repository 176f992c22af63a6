-- The text of values.
use Rattle.std.specs.Prelude.{ℕ, Bool, true, false, not, ◌&&◌, ◌||◌, ◌/◌, ◌%◌, ◌+◌, ◌-◌, if◌then◌else◌, nat_eq, nat_lt, List, [], ◌∷◌, ◌++◌, codes}
use Rattle.std.specs.List.{flat_map}
use Rattle.std.specs.Fmt.{signed_decimal}
use Rattle.sz_value.specs.Data.{Datum, truth, int, time, str, bytes, array, tuple, mapping, Data, no_data, datum, Entries, no_entries, entry}

-- the word for a truth value
abbrev pub truth_text : Bool → List ℕ
truth_text b = if b then codes "true" else codes "false"

-- the hexadecimal digit of a number below 16, a letter in lower case
abbrev pub hex_digit : ℕ → ℕ
hex_digit n = if nat_lt n 10 then 48 + n else 97 + (n - 10)

-- a byte as two hexadecimal digits after a backslash and an x
abbrev pub hex_text : ℕ → List ℕ
hex_text b = 92 ∷ 120 ∷ hex_digit (b / 16) ∷ hex_digit (b % 16) ∷ []

-- whether a byte is written in hexadecimal: one that controls a device, and outside of strings one that isn't ASCII
abbrev pub is_in_hex : Bool → ℕ → Bool
is_in_hex is_string b = nat_lt b 32 || nat_eq b 127 || (not is_string && nat_lt 127 b)

-- a byte between quotes, as it is or as its escape
abbrev pub escaped : Bool → ℕ → List ℕ
escaped is_string b =
    if nat_eq b 34 || nat_eq b 92 then 92 ∷ b ∷ []
    else if nat_eq b 10 then codes "\\n"
    else if nat_eq b 9 then codes "\\t"
    else if nat_eq b 13 then codes "\\r"
    else if is_in_hex is_string b then hex_text b
    else b ∷ []

-- the bytes, each as it is or as its escape
abbrev pub escaped_all : Bool → List ℕ → List ℕ
escaped_all is_string bs = flat_map (escaped is_string) bs

-- the bytes of a string, or of bytes, between quotes
abbrev pub quoted : Bool → List ℕ → List ℕ
quoted is_string bs = 34 ∷ escaped_all is_string bs ++ 34 ∷ []

abbrev mutual
  -- the text of a value
  pub value_text : Datum → List ℕ
  value_text (truth b) = truth_text b
  value_text (int n) = signed_decimal n
  value_text (time n) = signed_decimal n
  value_text (str text) = quoted true text
  value_text (bytes octets) = 66 ∷ quoted false octets
  value_text (array parts) = parts_text parts
  value_text (tuple parts) = parts_text parts
  value_text (mapping pairs) = map_text pairs

  -- the parts in braces, with a comma between them
  pub parts_text : Data → List ℕ
  parts_text no_data = codes "{}"
  parts_text (datum d ds) = 123 ∷ (value_text d ++ further_text ds) ++ 125 ∷ []

  -- each part after a comma
  pub further_text : Data → List ℕ
  further_text no_data = []
  further_text (datum d ds) = (codes ", " ++ value_text d) ++ further_text ds

  -- the pairs in braces, with a comma between them; a colon where there is none
  pub map_text : Entries → List ℕ
  map_text no_entries = codes "{:}"
  map_text (entry k v es) = 123 ∷ ((value_text k ++ codes ": " ++ value_text v) ++ further_pairs_text es) ++ 125 ∷ []

  -- each pair after a comma
  pub further_pairs_text : Entries → List ℕ
  further_pairs_text no_entries = []
  further_pairs_text (entry k v es) =
      (codes ", " ++ (value_text k ++ codes ": " ++ value_text v)) ++ further_pairs_text es

-- a key and its value, with a colon between them
abbrev pub pair_text : Datum × Datum → List ℕ
pair_text p = value_text p.0 ++ codes ": " ++ value_text p.1

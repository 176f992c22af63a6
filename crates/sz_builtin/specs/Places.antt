-- Places in strings, byte strings, arrays and maps. Places are counted from 0, those of strings in characters.
use Rattle.std.specs.Prelude.{ℕ, ◌+◌, ◌-◌, ℤ, pos, negsuc, nat_le, if◌then◌else◌, List, length, take, drop, slice_get, chars, encode_utf8_all, Option, Some, None, option_map}
use Rattle.std.specs.Option.{option_and_then}
use Rattle.sz_value.specs.Data.{Datum, int, str, bytes, array, mapping, data_of, parts_of, pairs_of}
use Rattle.sz_value.specs.Maps.{value_at}

-- the element at a place, if there is one
abbrev pub at_place : {X : Type 0} → List X → ℤ → Option X
at_place xs (pos n) = slice_get xs n
at_place xs (negsuc n) = None

-- a character's code or a byte as a value
abbrev pub code : ℕ → Datum
code c = int (pos c)

-- `a[i]` of an array, a string and a byte string, and `a[k]` of a map
abbrev pub index : Datum → Datum → Option Datum
index (array ds) (int n) = at_place (parts_of ds) n
index (str s) (int n) = option_map code (at_place (chars s) n)
index (bytes s) (int n) = option_map code (at_place s n)
index (mapping es) key = value_at key (pairs_of es)
index _ _ = None

-- how many elements a slice passes over and how many it takes, unless its places are out of order
abbrev pub span : ℤ → ℤ → Option (ℕ × ℕ)
span (pos i) (pos j) = if nat_le i j then Some (i, j - i) else None
span _ _ = None

-- the elements of such a part, unless the list has fewer
abbrev pub cut : {X : Type 0} → List X → ℕ × ℕ → Option (List X)
cut xs p = if nat_le (p.0 + p.1) (length xs) then Some (take p.1 (drop p.0 xs)) else None

-- such a part of a string, a byte string or an array
abbrev pub part : Datum → ℕ × ℕ → Option Datum
part (str s) p = option_map (λ cs. str (encode_utf8_all cs)) (cut (chars s) p)
part (bytes s) p = option_map bytes (cut s p)
part (array ds) p = option_map (λ es. array (data_of es)) (cut (parts_of ds) p)
part _ p = None

-- `a[i:j]`: the elements from place i up to place j
abbrev pub slice : Datum → ℤ → ℤ → Option Datum
slice d i j = option_and_then (part d) (span i j)

-- What the functions that each program has make of values.
use Rattle.std.specs.Prelude.{ℕ, suc, pos, negsuc, Bool, true, false, ◌&&◌, nat_eq, if◌then◌else◌, List, [], ◌∷◌, length, chars, Option, Some, None, option_map, is_some}
use Rattle.std.specs.Map.{keys_of}
use Rattle.sz_types.specs.declared.operator.Builtin.{Builtin}
use Rattle.sz_types.specs.declared.operator.Builtin.TheVariants.{Len, Keys, HasKey, StrFind}
use Rattle.sz_value.specs.Data.{Datum, truth, int, str, bytes, array, mapping, data_of, parts_of, pairs_of}
use Rattle.sz_value.specs.Maps.{value_at}

-- a number of elements as a value
abbrev pub count : ℕ → Datum
count n = int (pos n)

-- the number of characters, bytes, elements or pairs
abbrev pub len : Datum → Option Datum
len (str s) = Some (count (length (chars s)))
len (bytes s) = Some (count (length s))
len (array ds) = Some (count (length (parts_of ds)))
len (mapping es) = Some (count (length (pairs_of es)))
len _ = None

-- the keys of a map, in their order
abbrev pub keys : Datum → Option Datum
keys (mapping es) = Some (array (data_of (keys_of (pairs_of es))))
keys _ = None

-- whether a map has a key
abbrev pub haskey : Datum → Datum → Option Datum
haskey (mapping es) key = Some (truth (is_some (value_at key (pairs_of es))))
haskey _ key = None

-- whether the second list begins with the first
abbrev pub begins : List ℕ → List ℕ → Bool
begins [] ys = true
begins (x ∷ xs) [] = false
begins (x ∷ xs) (y ∷ ys) = nat_eq x y && begins xs ys

-- the first place, counted from 0, at which the first list stands in the second
abbrev pub first_place : List ℕ → List ℕ → Option ℕ
first_place xs [] = if begins xs [] then Some 0 else None
first_place xs (y ∷ ys) = if begins xs (y ∷ ys) then Some 0 else option_map suc (first_place xs ys)

-- a place as a value, -1 where there is none
abbrev pub place : Option ℕ → Datum
place (Some n) = int (pos n)
place None = int (negsuc 0)

-- the first place of a string or a byte string in another, counted in characters or in bytes
abbrev pub strfind : Datum → Datum → Option Datum
strfind (str s) (str t) = Some (place (first_place (chars s) (chars t)))
strfind (bytes s) (bytes t) = Some (place (first_place s t))
strfind _ _ = None

-- what a predeclared function makes of its arguments
abbrev pub builtin : Builtin → List Datum → Option Datum
builtin Len (d ∷ []) = len d
builtin Keys (d ∷ []) = keys d
builtin HasKey (d ∷ key ∷ []) = haskey d key
builtin StrFind (d ∷ e ∷ []) = strfind d e
builtin _ ds = None

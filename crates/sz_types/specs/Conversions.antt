-- Which type converts to which.
use Rattle.std.specs.Prelude.{Bool, true, false, ◌||◌, List, [], ◌∷◌, ⊤}
use Rattle.sz_types.specs.Data.{Shape, truth, int, time, str, bytes, proto}
use Rattle.sz_types.specs.Same.{alike}

-- the conversions between two types that differ
abbrev pub has_row : Shape → Shape → Bool
has_row str int = true
has_row bytes int = true
has_row bytes str = true
has_row str bytes = true
has_row int str = true
has_row truth str = true
has_row truth int = true
has_row int time = true
has_row time int = true
has_row bytes (proto _) = true
has_row _ _ = false

-- whether the first type converts to the second: a type converts to itself, and else there is a row for the two
abbrev pub converts_to : Shape → Shape → Bool
converts_to from to = has_row from to || alike from to

-- the conversions between two basic types, from the first of each pair to the second
abbrev pub rows : List (Shape × Shape)
rows =
    (str, int) ∷ (bytes, int) ∷ (bytes, str) ∷ (str, bytes) ∷ (int, str) ∷ (truth, str) ∷ (truth, int) ∷ (int, time)
    ∷ (time, int) ∷ []

-- the type is a proto type
abbrev pub IsProto : Shape → Type 0
IsProto (proto _) = ⊤
IsProto _ = ⊥

-- Look-ups in maps, and maps with one more pair.
use Rattle.std.specs.Prelude.{List, [], ◌∷◌, Option}
use Rattle.std.specs.BTreeMap.{insert_entry, is_at}
use Rattle.std.specs.Map.{lookup}
use Rattle.sz_value.specs.Data.{Datum}
use Rattle.sz_value.specs.Order.{compare}

-- the value of the pair with this key, if there is one
abbrev pub value_at : Datum → List (Datum × Datum) → Option Datum
value_at key pairs = lookup (is_at (compare key)) pairs

-- the pairs with this value at this key: in the stead of the value there, or as a new pair at its place in the order
abbrev pub with_pair : Datum → Datum → List (Datum × Datum) → List (Datum × Datum)
with_pair key value pairs = insert_entry compare pairs key value

-- the pairs with each of a list put in, one after another, so that of equal keys the last one stands
abbrev pub with_pairs : List (Datum × Datum) → List (Datum × Datum) → List (Datum × Datum)
with_pairs pairs [] = pairs
with_pairs pairs (p ∷ ps) = with_pairs (with_pair p.0 p.1 pairs) ps

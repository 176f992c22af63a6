-- What contracts see of a value, of a pair of a map, and of a slot.
use Rattle.std.specs.Prelude.{List, [], ◌∷◌, ◌++◌, map, Option, Some, None}
use Rattle.sz_value.specs.Data.{Datum, truth, int, time, str, bytes, array, tuple, mapping, data_of, entries_of}
use Rattle.sz_value.specs.declared.value.Value.{Value}
use Rattle.sz_value.specs.declared.value.Value.TheVariants.{Bool, Int, Time, Str, Bytes, Array, Tuple, Map}
use Rattle.sz_value.specs.declared.value.Pair.{Pair}
use Rattle.sz_value.specs.declared.value.Run.{Run}
use Rattle.sz_value.specs.declared.slots.Slot.{Slot}
use Rattle.sz_value.specs.declared.slots.Slot.TheVariants.{Defined, Undefined}

-- the plain data of a value
abbrev pub seen : Value → Datum
seen (Bool b) = truth b
seen (Int n) = int n
seen (Time n) = time n
seen (Str text) = str text
seen (Bytes octets) = bytes octets
seen (Array parts) = array (data_of parts)
seen (Tuple parts) = tuple (data_of parts)
seen (Map pairs) = mapping (entries_of pairs)

-- the plain data of a key and its value
abbrev pub seen_pair : Pair → Datum × Datum
seen_pair pair = (seen pair.key, seen pair.value)

-- the plain data of pairs
abbrev pub seen_pairs : List Pair → List (Datum × Datum)
seen_pairs pairs = map seen_pair pairs

-- the plain data of pairs that lie in runs, one after the other
abbrev pub seen_runs : List Run → List (Datum × Datum)
seen_runs [] = []
seen_runs (run ∷ runs) = seen_pairs run.pairs.items ++ seen_runs runs

-- the plain data of the value in a slot, if it holds one
abbrev pub seen_slot : Slot → Option Datum
seen_slot (Defined value) = Some (seen value)
seen_slot Undefined = None

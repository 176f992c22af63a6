-- What operators, predeclared functions, conversions and composites make of slots: undefined where an operand is.
use Rattle.std.specs.Prelude.{ℕ, List, [], ◌∷◌, slice_get, Option, Some, None, option_map, is_some}
use Rattle.std.specs.Option.{option_and_then}
use Rattle.sz_types.specs.Data.{Shape}
use Rattle.sz_types.specs.declared.operator.UnOp.{UnOp}
use Rattle.sz_types.specs.declared.operator.BinOp.{BinOp}
use Rattle.sz_types.specs.declared.operator.Builtin.{Builtin}
use Rattle.sz_value.specs.Data.{Datum, truth, int, bytes, array, tuple, mapping, data_of, entries_of, parts_of}
use Rattle.sz_value.specs.Maps.{with_pair}
use Rattle.sz_builtin.specs.Operators.{unary, binary}
use Rattle.sz_builtin.specs.Places.{index, slice}
use Rattle.sz_builtin.specs.Predeclared.{builtin}
use Rattle.sz_builtin.specs.Conversions.{convert}
use Rattle.sz_proto.specs.Messages.{decoded}
use Rattle.sz_world_rules.specs.Slots.{Slot, all_defined, of_two}

-- what an operator of one operand makes of a slot
abbrev pub unary_of : UnOp → Slot → Slot
unary_of op x = option_and_then (unary op) x

-- what an operator of two operands makes of two slots
abbrev pub binary_of : BinOp → Slot → Slot → Slot
binary_of op x y = of_two (binary op) x y

-- what a predeclared function makes of its arguments
abbrev pub applied : Builtin → List Slot → Slot
applied b arguments = option_and_then (builtin b) (all_defined arguments)

-- the element of a value under an index or key
abbrev pub element_of : Slot → Slot → Slot
element_of x i = of_two index x i

-- the part of a value between two places
abbrev pub slice_of : Slot → Slot → Slot → Slot
slice_of (Some d) (Some (int i)) (Some (int j)) = slice d i j
slice_of _ _ _ = None

-- the part of a tuple or a message at a place, counted from 0
abbrev pub part_at : ℕ → Datum → Slot
part_at n (tuple ds) = slice_get (parts_of ds) n
part_at n _ = None

-- the same of a slot
abbrev pub part_of : ℕ → Slot → Slot
part_of n x = option_and_then (part_at n) x

-- whether a slot is defined
abbrev pub definedness : Slot → Slot
definedness x = Some (truth (is_some x))

-- what a value becomes by a conversion to a type: bytes that become a message are decoded
abbrev pub became : Shape → Datum → Option Datum
became (Shape.proto fields) (bytes octets) = decoded (Shape.proto fields) octets
became t d = convert d t

-- the same of a slot
abbrev pub converted : Shape → Slot → Slot
converted t x = option_and_then (became t) x

-- the same where nothing is decoded
abbrev pub converted_plainly : Shape → Slot → Slot
converted_plainly t x = option_and_then (λ d. convert d t) x

-- the message that a value is by a type: bytes alone are one
abbrev pub message_of : Shape → Datum → Option Datum
message_of t (bytes octets) = decoded t octets
message_of t _ = None

-- the same of a slot
abbrev pub decoded_as : Shape → Slot → Slot
decoded_as t x = option_and_then (message_of t) x

-- the array of these elements
abbrev pub array_of : List Slot → Slot
array_of elements = option_map (λ ds. array (data_of ds)) (all_defined elements)

-- the tuple of these parts
abbrev pub tuple_of : List Slot → Slot
tuple_of parts = option_map (λ ds. tuple (data_of ds)) (all_defined parts)

-- the pairs of a map with these further keys and values, which stand by turns; of equal keys the last one stands
abbrev pub with_pairs : List (Datum × Datum) → List Datum → List (Datum × Datum)
with_pairs pairs (key ∷ value ∷ rest) = with_pairs (with_pair key value pairs) rest
with_pairs pairs _ = pairs

-- the map of these keys and values, which stand by turns
abbrev pub map_of : List Slot → Slot
map_of parts = option_map (λ ds. mapping (entries_of (with_pairs [] ds))) (all_defined parts)

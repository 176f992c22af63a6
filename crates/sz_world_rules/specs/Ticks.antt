-- The ticks that a result adds to the one of its expression: what it weighs, where it was made anew of bytes or parts.
use Rattle.std.specs.Prelude.{ℕ, ◌+◌, List, [], ◌∷◌, Some, None}
use Rattle.sz_types.specs.Data.{Shape}
use Rattle.sz_types.specs.declared.operator.BinOp.{BinOp}
use Rattle.sz_types.specs.declared.operator.BinOp.TheVariants.{Add}
use Rattle.sz_types.specs.declared.operator.Builtin.{Builtin}
use Rattle.sz_types.specs.declared.operator.Builtin.TheVariants.{Keys}
use Rattle.sz_value.specs.Data.{Datum, str, bytes, array}
use Rattle.sz_value.specs.Weight.{weight_of}
use Rattle.sz_world_rules.specs.Slots.{Slot}

-- nothing is added
abbrev pub no_weight : Slot → ℕ
no_weight result = 0

-- a defined result adds its weight
abbrev pub result_weight : Slot → ℕ
result_weight None = 0
result_weight (Some d) = weight_of d

-- a sum adds its weight where it joins strings, byte strings or arrays
abbrev pub sum_weight : Slot → ℕ
sum_weight (Some (str s)) = weight_of (str s)
sum_weight (Some (bytes s)) = weight_of (bytes s)
sum_weight (Some (array ds)) = weight_of (array ds)
sum_weight _ = 0

-- of the operators of two operands only sums add a weight
abbrev pub binary_weight : BinOp → Slot → ℕ
binary_weight Add result = sum_weight result
binary_weight _ result = 0

-- of the predeclared functions only `keys` adds a weight
abbrev pub builtin_weight : Builtin → Slot → ℕ
builtin_weight Keys result = result_weight result
builtin_weight _ result = 0

-- a conversion to a type adds the result's weight where it makes a string or bytes of another value, or a message of
-- bytes
abbrev pub conversion_weight : Shape → Slot → Slot → ℕ
conversion_weight Shape.str (Some (str s)) result = 0
conversion_weight Shape.str from result = result_weight result
conversion_weight Shape.bytes (Some (bytes s)) result = 0
conversion_weight Shape.bytes from result = result_weight result
conversion_weight (Shape.proto _) (Some (bytes s)) result = result_weight result
conversion_weight _ from result = 0

-- what values weigh together
abbrev pub weight_of_all : List Datum → ℕ
weight_of_all [] = 0
weight_of_all (d ∷ ds) = weight_of d + weight_of_all ds

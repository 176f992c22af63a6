-- Which types operators, places, predeclared functions and conversions take, and which type each gives: a row for each.
use Rattle.std.specs.Prelude.{ℕ, Bool, true, false, Option, Some, None, if◌then◌else◌, List, [], ◌∷◌}
use Rattle.sz_types.specs.Data.{Shape, truth, int, time, str, bytes, array, mapping, proto}
use Rattle.sz_types.specs.Same.{alike}
use Rattle.sz_types.specs.Conversions.{converts_to}
use Rattle.sz_types.specs.declared.operator.UnOp.{UnOp}
use Rattle.sz_types.specs.declared.operator.UnOp.TheVariants.{Negate, Plus, Not, Flip}
use Rattle.sz_types.specs.declared.operator.BinOp.{BinOp}
use Rattle.sz_types.specs.declared.operator.BinOp.TheVariants.{Add, Sub, Equal, NotEqual, Less, LessEqual, Greater, GreaterEqual}
use Rattle.sz_types.specs.declared.operator.Builtin.{Builtin}
use Rattle.sz_types.specs.declared.operator.Builtin.TheVariants.{Len, Keys, HasKey, StrFind}

-- whether both are the type of whole numbers
abbrev pub both_int : Shape → Shape → Bool
both_int int int = true
both_int _ _ = false

-- whether two types are the same, and have an order in programs
abbrev pub ordered : Shape → Shape → Bool
ordered int int = true
ordered time time = true
ordered str str = true
ordered bytes bytes = true
ordered _ _ = false

-- the type of `a + b` by those of its operands
abbrev pub sum_row : Shape → Shape → Option Shape
sum_row int int = Some int
sum_row time int = Some time
sum_row str str = Some str
sum_row bytes bytes = Some bytes
sum_row (array s) (array t) = if alike s t then Some (array s) else None
sum_row _ _ = None

-- the type of `a - b` by those of its operands
abbrev pub difference_row : Shape → Shape → Option Shape
difference_row int int = Some int
difference_row time int = Some time
difference_row time time = Some int
difference_row _ _ = None

-- the type that an operator of one operand gives, if it takes the operand's
abbrev pub unary_row : UnOp → Shape → Option Shape
unary_row Not truth = Some truth
unary_row Negate int = Some int
unary_row Plus int = Some int
unary_row Flip int = Some int
unary_row _ _ = None

-- the type that an operator of two operands gives, if it takes theirs
abbrev pub binary_row : BinOp → Shape → Shape → Option Shape
binary_row Add s t = sum_row s t
binary_row Sub s t = difference_row s t
binary_row Equal s t = if alike s t then Some truth else None
binary_row NotEqual s t = if alike s t then Some truth else None
binary_row Less s t = if ordered s t then Some truth else None
binary_row LessEqual s t = if ordered s t then Some truth else None
binary_row Greater s t = if ordered s t then Some truth else None
binary_row GreaterEqual s t = if ordered s t then Some truth else None
binary_row op s t = if both_int s t then Some int else None

-- the type of `a[i]` by those of `a` and of `i`
abbrev pub index_row : Shape → Shape → Option Shape
index_row (array t) int = Some t
index_row str int = Some int
index_row bytes int = Some int
index_row (mapping k v) t = if alike k t then Some v else None
index_row _ _ = None

-- the type of `a[i:j]` by that of `a`; both places are whole numbers
abbrev pub slice_row : Shape → Option Shape
slice_row str = Some str
slice_row bytes = Some bytes
slice_row (array t) = Some (array t)
slice_row _ = None

-- the type of the number of parts of a value, if it has parts that can be counted
abbrev pub len_row : Shape → Option Shape
len_row str = Some int
len_row bytes = Some int
len_row (array t) = Some int
len_row (mapping k v) = Some int
len_row _ = None

-- the type of a map's keys
abbrev pub keys_row : Shape → Option Shape
keys_row (mapping k v) = Some (array k)
keys_row _ = None

-- the type of whether a map has a key
abbrev pub haskey_row : Shape → Shape → Option Shape
haskey_row (mapping k v) t = if alike k t then Some truth else None
haskey_row _ _ = None

-- the type of the place of one string in another, or of one byte string
abbrev pub strfind_row : Shape → Shape → Option Shape
strfind_row str str = Some int
strfind_row bytes bytes = Some int
strfind_row _ _ = None

-- the type that a predeclared function gives, if it takes arguments of these types
abbrev pub builtin_row : Builtin → List Shape → Option Shape
builtin_row Len (s ∷ []) = len_row s
builtin_row Keys (s ∷ []) = keys_row s
builtin_row HasKey (s ∷ t ∷ []) = haskey_row s t
builtin_row StrFind (s ∷ t ∷ []) = strfind_row s t
builtin_row _ _ = None

-- the type that a conversion to a type gives, if it takes the value's; bytes become a message by decoding, and not here
abbrev pub convert_row : Shape → Shape → Option Shape
convert_row bytes (proto _) = None
convert_row from to = if converts_to from to then Some to else None

-- how many arguments a predeclared function takes
abbrev pub arity : Builtin → ℕ
arity Len = 1
arity Keys = 1
arity HasKey = 2
arity StrFind = 2

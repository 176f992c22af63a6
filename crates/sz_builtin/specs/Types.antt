-- What is made of values of some types has the type that the row of these types gives.
use Rattle.std.specs.Prelude.{ℤ, true, ◌≡◌, IfSome, Some, List}
use Rattle.sz_types.specs.Data.{Shape}
use Rattle.sz_types.specs.declared.operator.UnOp.{UnOp}
use Rattle.sz_types.specs.declared.operator.BinOp.{BinOp}
use Rattle.sz_types.specs.declared.operator.Builtin.{Builtin}
use Rattle.sz_value.specs.Data.{Datum}
use Rattle.sz_types.specs.Types.{has_type, have_types}
use Rattle.sz_builtin.specs.Operators.{unary, binary}
use Rattle.sz_builtin.specs.Places.{index, slice}
use Rattle.sz_builtin.specs.Predeclared.{builtin}
use Rattle.sz_builtin.specs.Conversions.{convert}
use Rattle.sz_types.specs.Rows.{unary_row, binary_row, index_row, slice_row, builtin_row, convert_row}

-- where an operand has a type that the operator takes, a result has the type that it gives
abbrev pub KeepsUnary : Type 0
KeepsUnary = (op : UnOp) (a : Datum) (s u : Shape) → has_type a s ≡ true → unary_row op s ≡ Some u
    → IfSome (unary op a) (λ d. has_type d u ≡ true)

-- the same of two operands
abbrev pub KeepsBinary : Type 0
KeepsBinary =
    (op : BinOp) (a b : Datum) (s t u : Shape) → has_type a s ≡ true → has_type b t ≡ true → binary_row op s t ≡ Some u
    → IfSome (binary op a b) (λ d. has_type d u ≡ true)

-- an element has the type that the row of its base and its place or key gives
abbrev pub KeepsIndex : Type 0
KeepsIndex =
    (a b : Datum) (s t u : Shape) → has_type a s ≡ true → has_type b t ≡ true → index_row s t ≡ Some u
    → IfSome (index a b) (λ d. has_type d u ≡ true)

-- a part has the type that the row of its base gives
abbrev pub KeepsSlice : Type 0
KeepsSlice =
    (a : Datum) (from to : ℤ) (s u : Shape) → has_type a s ≡ true → slice_row s ≡ Some u
    → IfSome (slice a from to) (λ d. has_type d u ≡ true)

-- what a predeclared function gives has the type that the row of its arguments gives
abbrev pub KeepsBuiltin : Type 0
KeepsBuiltin =
    (which : Builtin) (ds : List Datum) (ss : List Shape) (u : Shape) → have_types ds ss ≡ true
    → builtin_row which ss ≡ Some u → IfSome (builtin which ds) (λ d. has_type d u ≡ true)

-- what a value becomes by a conversion has the type that it was converted to
abbrev pub KeepsConvert : Type 0
KeepsConvert =
    (a : Datum) (s t u : Shape) → has_type a s ≡ true → convert_row s t ≡ Some u
    → IfSome (convert a t) (λ d. has_type d u ≡ true)

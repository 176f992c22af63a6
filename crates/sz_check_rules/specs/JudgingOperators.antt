-- What operators of one and of two operands are judged to be.
use Rattle.std.specs.Prelude.{Bool, true, false, if◌then◌else◌, Option, Some, None, Ok}
use Rattle.sz_types.specs.Data.{Shape}
use Rattle.sz_types.specs.Same.{alike}
use Rattle.sz_types.specs.Rows.{unary_row, binary_row}
use Rattle.sz_types.specs.declared.place.Place.{Place}
use Rattle.sz_types.specs.declared.operator.UnOp.{UnOp}
use Rattle.sz_types.specs.declared.operator.UnOp.TheVariants as unary
use Rattle.sz_types.specs.declared.operator.BinOp.{BinOp}
use Rattle.sz_types.specs.declared.operator.BinOp.TheVariants as binary
use Rattle.sz_tree.specs.declared.operator.UnaryOp.{UnaryOp}
use Rattle.sz_tree.specs.declared.operator.UnaryOp.TheVariants as unaries
use Rattle.sz_tree.specs.declared.operator.BinaryOp.{BinaryOp}
use Rattle.sz_tree.specs.declared.operator.BinaryOp.TheVariants as ops
use Rattle.sz_tree.specs.Expressions.{Exp, place_of}
use Rattle.sz_core.specs.Nodes.{Node, node, type_of}
use Rattle.sz_core.specs.Nodes as forms
use Rattle.sz_check_rules.specs.Refusals.{Judged, ◌>>=◌, unless, wrong_type}

-- the operator of one operand that a sign is
abbrev pub unary_of : UnaryOp → UnOp
unary_of unaries.Negate = unary.Negate
unary_of unaries.Plus = unary.Plus
unary_of unaries.Not = unary.Not
unary_of unaries.Complement = unary.Flip

abbrev pub made_unary : Place → UnaryOp → Exp → Node → Judged Node
made_unary p o e n = given (unary_row (unary_of o) (type_of n))
  where
    given : Option Shape → Judged Node
    given (Some t) = Ok (node p t (forms.unary (unary_of o) n))
    given None = wrong_type (place_of e)

-- what an operator of two operands is: one that may not look at the second, or one that takes both
pub data Operation : Type 0 where
  both : Operation
  either : Operation
  of : BinOp → Operation

abbrev pub operation_of : BinaryOp → Operation
operation_of ops.Or = either
operation_of ops.And = both
operation_of ops.Equal = of binary.Equal
operation_of ops.NotEqual = of binary.NotEqual
operation_of ops.Less = of binary.Less
operation_of ops.LessEqual = of binary.LessEqual
operation_of ops.Greater = of binary.Greater
operation_of ops.GreaterEqual = of binary.GreaterEqual
operation_of ops.Add = of binary.Add
operation_of ops.Subtract = of binary.Sub
operation_of ops.BitOr = of binary.BitOr
operation_of ops.BitXor = of binary.BitXor
operation_of ops.Multiply = of binary.Mul
operation_of ops.Divide = of binary.Div
operation_of ops.Remainder = of binary.Rem
operation_of ops.ShiftLeft = of binary.Shl
operation_of ops.ShiftRight = of binary.Shr
operation_of ops.BitAnd = of binary.BitAnd

-- whether a composite as the right operand takes the type of the left one: that of `+` and of comparisons
abbrev pub hands_type_on : BinOp → Bool
hands_type_on binary.Add = true
hands_type_on binary.Equal = true
hands_type_on binary.NotEqual = true
hands_type_on binary.Less = true
hands_type_on binary.LessEqual = true
hands_type_on binary.Greater = true
hands_type_on binary.GreaterEqual = true
hands_type_on _ = false

-- what is asked of the right operand, by the type of the left one
abbrev pub asked_of_right : Operation → Shape → Option Shape
asked_of_right (of o) t = if hands_type_on o then Some t else None
asked_of_right _ t = None

-- whether a value of the type has a sum with one of some second type
abbrev pub is_summand : Shape → Bool
is_summand Shape.int = true
is_summand Shape.time = true
is_summand Shape.str = true
is_summand Shape.bytes = true
is_summand (Shape.array t) = true
is_summand _ = false

-- whether it has a difference
abbrev pub is_minuend : Shape → Bool
is_minuend Shape.int = true
is_minuend Shape.time = true
is_minuend _ = false

-- whether two values of the type have an order
abbrev pub is_ordered : Shape → Bool
is_ordered Shape.int = true
is_ordered Shape.time = true
is_ordered Shape.str = true
is_ordered Shape.bytes = true
is_ordered _ = false

-- whether some row of an operator has this type as that of the left operand
abbrev pub takes_left : BinOp → Shape → Bool
takes_left binary.Add t = is_summand t
takes_left binary.Sub t = is_minuend t
takes_left binary.Equal t = true
takes_left binary.NotEqual t = true
takes_left binary.Less t = is_ordered t
takes_left binary.LessEqual t = is_ordered t
takes_left binary.Greater t = is_ordered t
takes_left binary.GreaterEqual t = is_ordered t
takes_left _ t = alike t Shape.int

-- an operator that takes both operands: where no row has the type of the left one it is the wrong one, else the right
-- one is
abbrev pub made_operator : Place → BinOp → Exp → Exp → Node → Node → Judged Node
made_operator p o l r n m = do
  _ ← unless (takes_left o (type_of n)) (wrong_type (place_of l))
  given (binary_row o (type_of n) (type_of m))
  where
    given : Option Shape → Judged Node
    given (Some t) = Ok (node p t (forms.binary o n m))
    given None = wrong_type (place_of r)

-- an expression that has to be a truth value
abbrev pub test : Exp → Node → Judged Unit
test e n = unless (alike (type_of n) Shape.truth) (wrong_type (place_of e))

abbrev pub made_binary : Place → Operation → Exp → Exp → Node → Node → Judged Node
made_binary p both l r n m = do
  _ ← test l n
  _ ← test r m
  Ok (node p Shape.truth (forms.both n m))
made_binary p either l r n m = do
  _ ← test l n
  _ ← test r m
  Ok (node p Shape.truth (forms.either n m))
made_binary p (of o) l r n m = made_operator p o l r n m

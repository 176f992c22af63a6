-- What contracts see of operators.
use Rattle.std.specs.Prelude.{Bool, false}
use Rattle.sz_types.specs.Data.{Shape}
use Rattle.sz_types.specs.Same.{alike}
use Rattle.sz_types.specs.Rows.{ordered}
use Rattle.sz_types.specs.declared.operator.BinOp.{BinOp}
use Rattle.sz_types.specs.declared.operator.BinOp.TheVariants.{Equal, NotEqual, Less, LessEqual, Greater, GreaterEqual}
use Rattle.sz_check_expr.specs.declared.operator.Operation.{Operation as Operated}
use Rattle.sz_check_expr.specs.declared.operator.Operation.TheVariants as operated
use Rattle.sz_check_rules.specs.JudgingOperators.{Operation, both, either, of}

-- what an operator of two operands is
abbrev pub operation_seen : Operated → Operation
operation_seen operated.And = both
operation_seen operated.Or = either
operation_seen (operated.Of o) = of o

-- whether an operator that compares takes operands of these types
abbrev pub is_compared : BinOp → Shape → Shape → Bool
is_compared Equal s t = alike s t
is_compared NotEqual s t = alike s t
is_compared Less s t = ordered s t
is_compared LessEqual s t = ordered s t
is_compared Greater s t = ordered s t
is_compared GreaterEqual s t = ordered s t
is_compared _ s t = false

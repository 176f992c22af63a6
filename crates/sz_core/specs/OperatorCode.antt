-- How the logic stores places and operators.
use Rattle.std.specs.Prelude.{◌≡◌, ℕ, List, [], ◌∷◌, slice_get, unwrap_or}
use Rattle.std.proofs.Common.{refl}
use Rattle.std.specs.Coded.{Coded, code_by, coded_ℕ, coded×}
use Rattle.sz_types.specs.declared.place.Place.{Place}
use Rattle.sz_types.specs.declared.operator.UnOp.{UnOp}
use Rattle.sz_types.specs.declared.operator.UnOp.TheVariants as unary
use Rattle.sz_types.specs.declared.operator.BinOp.{BinOp}
use Rattle.sz_types.specs.declared.operator.BinOp.TheVariants as binary
use Rattle.sz_types.specs.declared.operator.Builtin.{Builtin}
use Rattle.sz_types.specs.declared.operator.Builtin.TheVariants as builtins

-- how a place is stored
abbrev pub place_code : Coded Place
place_code = code_by (ℕ × ℕ) (coded× coded_ℕ coded_ℕ) (λ p. (p.line, p.column))
    (λ q. record { line = q.0; column = q.1 }) (λ p. refl)

-- the operators of one operand, in order, and the place of each among them
abbrev unary_all : List UnOp
unary_all = unary.Negate ∷ unary.Plus ∷ unary.Not ∷ unary.Flip ∷ []

abbrev unary_number : UnOp → ℕ
unary_number unary.Negate = 0
unary_number unary.Plus = 1
unary_number unary.Not = 2
unary_number unary.Flip = 3

abbrev unary_at : ℕ → UnOp
unary_at n = unwrap_or (slice_get unary_all n) unary.Negate

pub unary_again : (o : UnOp) → unary_at (unary_number o) ≡ o
unary_again o = elim o as (λ o. unary_at (unary_number o) ≡ o) [ unary.Negate ↦ refl | _ ↦ refl ]

-- how an operator of one operand is stored
abbrev pub unary_code : Coded UnOp
unary_code = code_by ℕ coded_ℕ unary_number unary_at unary_again

-- the operators of two operands, in order, and the place of each among them
abbrev binary_all : List BinOp
binary_all =
    binary.Add ∷ binary.Sub ∷ binary.Mul ∷ binary.Div ∷ binary.Rem ∷ binary.Shl ∷ binary.Shr
    ∷ binary.BitAnd ∷ binary.BitOr ∷ binary.BitXor ∷ binary.Equal ∷ binary.NotEqual ∷ binary.Less ∷ binary.LessEqual
    ∷ binary.Greater ∷ binary.GreaterEqual ∷ []

abbrev binary_number : BinOp → ℕ
binary_number binary.Add = 0
binary_number binary.Sub = 1
binary_number binary.Mul = 2
binary_number binary.Div = 3
binary_number binary.Rem = 4
binary_number binary.Shl = 5
binary_number binary.Shr = 6
binary_number binary.BitAnd = 7
binary_number binary.BitOr = 8
binary_number binary.BitXor = 9
binary_number binary.Equal = 10
binary_number binary.NotEqual = 11
binary_number binary.Less = 12
binary_number binary.LessEqual = 13
binary_number binary.Greater = 14
binary_number binary.GreaterEqual = 15

abbrev binary_at : ℕ → BinOp
binary_at n = unwrap_or (slice_get binary_all n) binary.Add

pub binary_again : (o : BinOp) → binary_at (binary_number o) ≡ o
binary_again o = elim o as (λ o. binary_at (binary_number o) ≡ o) [ binary.Add ↦ refl | _ ↦ refl ]

-- how an operator of two operands is stored
abbrev pub binary_code : Coded BinOp
binary_code = code_by ℕ coded_ℕ binary_number binary_at binary_again

-- the functions that each program has, in order, and the place of each among them
abbrev builtin_all : List Builtin
builtin_all = builtins.Len ∷ builtins.Keys ∷ builtins.HasKey ∷ builtins.StrFind ∷ []

abbrev builtin_number : Builtin → ℕ
builtin_number builtins.Len = 0
builtin_number builtins.Keys = 1
builtin_number builtins.HasKey = 2
builtin_number builtins.StrFind = 3

abbrev builtin_at : ℕ → Builtin
builtin_at n = unwrap_or (slice_get builtin_all n) builtins.Len

pub builtin_again : (b : Builtin) → builtin_at (builtin_number b) ≡ b
builtin_again b = elim b as (λ b. builtin_at (builtin_number b) ≡ b) [ builtins.Len ↦ refl | _ ↦ refl ]

-- how the name of such a function is stored
abbrev pub builtin_code : Coded Builtin
builtin_code = code_by ℕ coded_ℕ builtin_number builtin_at builtin_again

-- What the operators make of values. A slot without a value is undefined.
use Rattle.std.specs.Prelude.{ℕ, ℤ, pos, negsuc, neg_ℤ, ◌+ℤ◌, ◌-ℤ◌, ◌*ℤ◌, Bool, false, not, nat_eq, nat_lt, if◌then◌else◌, ◌++◌, Option, Some, None, option_map, int_rem}
use Rattle.std.specs.Int.{int_wrap, int_wrapping_div, int_bit_and, int_bit_or, int_bit_xor, int_bit_not, int_shl, int_shr, w64}
use Rattle.std.specs.Ordering.{is_eq, is_ne, is_lt, is_le, is_gt, is_ge}
use Rattle.sz_types.specs.declared.operator.UnOp.{UnOp}
use Rattle.sz_types.specs.declared.operator.UnOp.TheVariants.{Negate, Plus, Not, Flip}
use Rattle.sz_types.specs.declared.operator.BinOp.{BinOp}
use Rattle.sz_types.specs.declared.operator.BinOp.TheVariants.{Add, Sub, Mul, Div, Rem, Shl, Shr, BitAnd, BitOr, BitXor, Equal, NotEqual, Less, LessEqual, Greater, GreaterEqual}
use Rattle.sz_value.specs.Data.{Datum, truth, int, time, str, bytes, array, data_of, parts_of}
use Rattle.sz_value.specs.Order.{compare}

-- what is left of a number in 64 bits with a sign
abbrev pub wrapped : ℤ → ℤ
wrapped n = int_wrap w64 n

-- what an operator of one operand makes of a value
abbrev pub unary : UnOp → Datum → Option Datum
unary Negate (int a) = Some (int (wrapped (neg_ℤ a)))
unary Plus (int a) = Some (int a)
unary Not (truth a) = Some (truth (not a))
unary Flip (int a) = Some (int (int_bit_not w64 a))
unary _ _ = None

-- whether the number is zero
abbrev pub is_zero : ℤ → Bool
is_zero (pos n) = nat_eq n 0
is_zero (negsuc n) = false

-- the quotient, rounded toward zero, unless the divisor is zero
abbrev pub quotient : ℤ → ℤ → Option ℤ
quotient a b = if is_zero b then None else Some (int_wrapping_div w64 a b)

-- what the quotient leaves, with the sign of the dividend, unless the divisor is zero
abbrev pub remainder : ℤ → ℤ → Option ℤ
remainder a b = if is_zero b then None else Some (int_rem a b)

-- the number of places of a shift, from 0 to 63
abbrev pub shift_of : ℤ → Option ℕ
shift_of (pos n) = if nat_lt n 64 then Some n else None
shift_of (negsuc n) = None

-- what an operator on whole numbers alone makes of two of them
abbrev pub of_numbers : BinOp → ℤ → ℤ → Option ℤ
of_numbers Mul a b = Some (wrapped (a *ℤ b))
of_numbers Div a b = quotient a b
of_numbers Rem a b = remainder a b
of_numbers Shl a b = option_map (int_shl w64 a) (shift_of b)
of_numbers Shr a b = option_map (int_shr a) (shift_of b)
of_numbers BitAnd a b = Some (int_bit_and w64 a b)
of_numbers BitOr a b = Some (int_bit_or w64 a b)
of_numbers BitXor a b = Some (int_bit_xor w64 a b)
of_numbers _ a b = None

-- what a function of two whole numbers makes of two values
abbrev pub on_numbers : (ℤ → ℤ → Option ℤ) → Datum → Datum → Option Datum
on_numbers f (int a) (int b) = option_map int (f a b)
on_numbers f _ _ = None

-- `a + b`: a sum that wraps, or two strings, byte strings or arrays as one
abbrev pub sum : Datum → Datum → Option Datum
sum (int a) (int b) = Some (int (wrapped (a +ℤ b)))
sum (time a) (int b) = Some (time (wrapped (a +ℤ b)))
sum (str s) (str t) = Some (str (s ++ t))
sum (bytes s) (bytes t) = Some (bytes (s ++ t))
sum (array ds) (array es) = Some (array (data_of (parts_of ds ++ parts_of es)))
sum _ _ = None

-- `a - b`, which wraps
abbrev pub difference : Datum → Datum → Option Datum
difference (int a) (int b) = Some (int (wrapped (a -ℤ b)))
difference (time a) (int b) = Some (time (wrapped (a -ℤ b)))
difference (time a) (time b) = Some (int (wrapped (a -ℤ b)))
difference _ _ = None

-- what an operator of two operands makes of two values; comparisons are by the order of values
abbrev pub binary : BinOp → Datum → Datum → Option Datum
binary Add a b = sum a b
binary Sub a b = difference a b
binary Equal a b = Some (truth (is_eq (compare a b)))
binary NotEqual a b = Some (truth (is_ne (compare a b)))
binary Less a b = Some (truth (is_lt (compare a b)))
binary LessEqual a b = Some (truth (is_le (compare a b)))
binary Greater a b = Some (truth (is_gt (compare a b)))
binary GreaterEqual a b = Some (truth (is_ge (compare a b)))
binary op a b = on_numbers (of_numbers op) a b

-- With which tokens an expression begins, and with which it goes on.
use Rattle.std.proofs.Common.{◌≡◌, ℕ, ◌≤◌, ◌<◌, Bool, true, false, List, [], ◌∷◌, Option, Some, None}
use Rattle.std.proofs.Common.{refl, sym, ap, ◌∙◌, arith}
use denote.Enum.Bare.{false_same}
use Rattle.std.proofs.lemmas.Bool.{eq-eqb, ne_eqb}
use Rattle.sz_lex.specs.declared.token.Token.{Token}
use Rattle.sz_lex.specs.declared.token.Kind.{Kind}
use Rattle.sz_lex.specs.declared.token.Kind.TheVariants as kinds
use Rattle.sz_lex.specs.declared.sign.Sign.{Sign}
use Rattle.sz_lex.specs.declared.sign.Sign.TheVariants as signs
use Rattle.sz_lex.specs.contracts.sign.Sign.{the_type as sign_type}
use Rattle.sz_tree.specs.declared.operator.BinaryOp.{BinaryOp}
use Rattle.sz_tree.specs.declared.operator.BinaryOp.TheVariants as ops
use Rattle.sz_tree.specs.declared.operator.UnaryOp.{UnaryOp}
use Rattle.sz_tree.specs.declared.operator.UnaryOp.TheVariants as unaries
use Rattle.sz_tree.specs.Expressions.{Lit, number, string, bytes, character, boolean, Exp, literal, named, call, def, paren, convert, list}
use Rattle.sz_tree.specs.Expressions.{mapping, index, slice, field, unary, binary}
use Rattle.sz_tree.specs.Expressions.{loose_of, left_loose, loose}
use Rattle.sz_parse_expr.specs.Tokens.{Spelling, IsSign, IsLiteral}
use Rattle.sz_parse_expr.specs.Expressions.{sign_of, unary_sign, Reads}
use Rattle.sz_parse_expr.specs.Reading.{sign_here, after_sign}
use Rattle.sz_parse_expr.specs.ReadingExpressions.{sign_unary, sign_binary, binary_of, operator_here, operator_at}
use Rattle.sz_parse_expr.proofs.ExpressionSound.{sign_binary_sound}

-- ---- one token

-- from which level on a sign goes on with the expression before it
abbrev pub sign_grip : Sign → ℕ
sign_grip signs.OpenParen = 0
sign_grip signs.OpenBracket = 0
sign_grip signs.Dot = 0
sign_grip signs.Star = 1
sign_grip signs.Slash = 1
sign_grip signs.Percent = 1
sign_grip signs.ShiftLeft = 1
sign_grip signs.ShiftRight = 1
sign_grip signs.And = 1
sign_grip signs.Plus = 2
sign_grip signs.Minus = 2
sign_grip signs.Or = 2
sign_grip signs.Caret = 2
sign_grip signs.EqualEqual = 3
sign_grip signs.NotEqual = 3
sign_grip signs.Less = 3
sign_grip signs.LessEqual = 3
sign_grip signs.Greater = 3
sign_grip signs.GreaterEqual = 3
sign_grip signs.AndAnd = 4
sign_grip signs.OrOr = 5
sign_grip _ = 6

abbrev pub kind_grip : Kind → ℕ
kind_grip (kinds.Sign s) = sign_grip s
kind_grip _ = 6

abbrev pub grip : List Token → ℕ
grip [] = 6
grip (t ∷ ts) = kind_grip t.kind

pub grip_is : (s : Sign) (ts rest : List Token) → IsSign s ts rest → grip ts ≡ sign_grip s
grip_is s ts rest h = rw h.is refl

-- a sign that goes on with any expression isn't there
no_grip_here : (s : Sign) (k : Kind) (ts : List Token) → sign_grip s ≡ 0 → 0 < kind_grip k → sign_here s k ts ≡ None
no_grip_here s (kinds.Sign r) ts f h = rw (false_same sign_type tt r s (λ e. clash (ap sign_grip e))) refl
  where
    clash : sign_grip r ≡ sign_grip s → ⊥
    clash e = omega (arith, e, f, h)
no_grip_here s kinds.Name ts f h = refl
no_grip_here s (kinds.Word w) ts f h = refl
no_grip_here s (kinds.Number n) ts f h = refl
no_grip_here s (kinds.Character c) ts f h = refl
no_grip_here s kinds.Str ts f h = refl
no_grip_here s kinds.Bytes ts f h = refl

pub no_grip : (s : Sign) (ts : List Token) → sign_grip s ≡ 0 → 0 < grip ts → after_sign s ts ≡ None
unfolding after_sign
no_grip s [] f h = refl
no_grip s (t ∷ ts) f h = no_grip_here s t.kind ts f h

binary_of_sign : (o : BinaryOp) → sign_binary (sign_of o) ≡ Some o
binary_of_sign ops.Or = refl
binary_of_sign ops.And = refl
binary_of_sign ops.Equal = refl
binary_of_sign ops.NotEqual = refl
binary_of_sign ops.Less = refl
binary_of_sign ops.LessEqual = refl
binary_of_sign ops.Greater = refl
binary_of_sign ops.GreaterEqual = refl
binary_of_sign ops.Add = refl
binary_of_sign ops.Subtract = refl
binary_of_sign ops.BitOr = refl
binary_of_sign ops.BitXor = refl
binary_of_sign ops.Multiply = refl
binary_of_sign ops.Divide = refl
binary_of_sign ops.Remainder = refl
binary_of_sign ops.ShiftLeft = refl
binary_of_sign ops.ShiftRight = refl
binary_of_sign ops.BitAnd = refl

-- what is known of an operator's looseness
pub record Looseness (o : BinaryOp) : Type 0 where
  pub grips : sign_grip (sign_of o) ≡ loose_of o
  pub most : loose_of o ≤ 5
  pub least : 1 ≤ loose_of o
  pub left : left_loose o ≤ loose_of o

pub looseness : (o : BinaryOp) → Looseness o
looseness ops.Or = record { grips = refl; most = omega arith; least = omega arith; left = omega arith }
looseness ops.And = record { grips = refl; most = omega arith; least = omega arith; left = omega arith }
looseness ops.Equal = record { grips = refl; most = omega arith; least = omega arith; left = omega arith }
looseness ops.NotEqual = record { grips = refl; most = omega arith; least = omega arith; left = omega arith }
looseness ops.Less = record { grips = refl; most = omega arith; least = omega arith; left = omega arith }
looseness ops.LessEqual = record { grips = refl; most = omega arith; least = omega arith; left = omega arith }
looseness ops.Greater = record { grips = refl; most = omega arith; least = omega arith; left = omega arith }
looseness ops.GreaterEqual = record { grips = refl; most = omega arith; least = omega arith; left = omega arith }
looseness ops.Add = record { grips = refl; most = omega arith; least = omega arith; left = omega arith }
looseness ops.Subtract = record { grips = refl; most = omega arith; least = omega arith; left = omega arith }
looseness ops.BitOr = record { grips = refl; most = omega arith; least = omega arith; left = omega arith }
looseness ops.BitXor = record { grips = refl; most = omega arith; least = omega arith; left = omega arith }
looseness ops.Multiply = record { grips = refl; most = omega arith; least = omega arith; left = omega arith }
looseness ops.Divide = record { grips = refl; most = omega arith; least = omega arith; left = omega arith }
looseness ops.Remainder = record { grips = refl; most = omega arith; least = omega arith; left = omega arith }
looseness ops.ShiftLeft = record { grips = refl; most = omega arith; least = omega arith; left = omega arith }
looseness ops.ShiftRight = record { grips = refl; most = omega arith; least = omega arith; left = omega arith }
looseness ops.BitAnd = record { grips = refl; most = omega arith; least = omega arith; left = omega arith }

pub unary_of_sign : (o : UnaryOp) → sign_unary (unary_sign o) ≡ Some o
unary_of_sign unaries.Negate = refl
unary_of_sign unaries.Plus = refl
unary_of_sign unaries.Not = refl
unary_of_sign unaries.Complement = refl

pub operator_is : (o : BinaryOp) (l : ℕ) (ts rest : List Token) → IsSign (sign_of o) ts rest → loose_of o ≡ l
    → operator_at l ts ≡ Some (o, rest)
unfolding operator_at
operator_is o l ts rest h e = rw (h.is, binary_of_sign o, eq-eqb (loose_of o) l e) refl

-- no operator of this level is here
no_operator_of : (l : ℕ) (m : Option BinaryOp) (ts : List Token) → ((o : BinaryOp) → m ≡ Some o → l < loose_of o)
    → operator_here l m ts ≡ None
no_operator_of l (Some o) ts h = rw (ne_eqb (loose_of o) l (λ q. omega (arith, q, h o refl))) refl
no_operator_of l None ts h = refl

operator_none_kind : (l : ℕ) (k : Kind) (ts : List Token) → l < kind_grip k → operator_here l (binary_of k) ts ≡ None
operator_none_kind l (kinds.Sign s) ts h =
    no_operator_of l (sign_binary s) ts
    (λ o e. omega (arith, h, (looseness o).grips, ap sign_grip ((sign_binary_sound s).holds o e)))
operator_none_kind l kinds.Name ts h = refl
operator_none_kind l (kinds.Word w) ts h = refl
operator_none_kind l (kinds.Number n) ts h = refl
operator_none_kind l (kinds.Character c) ts h = refl
operator_none_kind l kinds.Str ts h = refl
operator_none_kind l kinds.Bytes ts h = refl

pub operator_none : (l : ℕ) (ts : List Token) → l < grip ts → operator_at l ts ≡ None
unfolding operator_at
operator_none l [] h = refl
operator_none l (t ∷ ts) h = operator_none_kind l t.kind ts h

pub loose_most : (e : Exp) → loose e ≤ 5
loose_most (binary p o l r) = (looseness o).most
loose_most _ = omega arith

-- ---- the first token of an expression

abbrev starts_sign : Sign → Bool
starts_sign signs.OpenParen = true
starts_sign signs.OpenBrace = true
starts_sign signs.Minus = true
starts_sign signs.Plus = true
starts_sign signs.Not = true
starts_sign signs.Tilde = true
starts_sign _ = false

abbrev starts_kind : Kind → Bool
starts_kind (kinds.Sign s) = starts_sign s
starts_kind _ = true

abbrev pub starts : List Token → Bool
starts [] = false
starts (t ∷ ts) = starts_kind t.kind

unary_starts : (o : UnaryOp) → starts_sign (unary_sign o) ≡ true
unary_starts unaries.Negate = refl
unary_starts unaries.Plus = refl
unary_starts unaries.Not = refl
unary_starts unaries.Complement = refl

literal_starts : (text : Spelling) (l : Lit) (t : Token) → IsLiteral text l t → starts_kind t.kind ≡ true
literal_starts text (number n) t h = rw h refl
literal_starts text (string v) t h = rw h.0 refl
literal_starts text (bytes v) t h = rw h.0 refl
literal_starts text (character c) t h = rw h refl
literal_starts text (boolean true) t h = rw h refl
literal_starts text (boolean false) t h = rw h refl

pub reads_starts : (text : Spelling) (e : Exp) (ts rest : List Token) → Reads text e ts rest → starts ts ≡ true
unfolding Reads
reads_starts text (literal p l) ts rest h = rw h.is (literal_starts text l h.here h.means)
reads_starts text (named n) ts rest h = rw h.is refl
reads_starts text (call n es) ts rest h = rw h.3.is refl
reads_starts text (def p e) ts rest h = rw h.3.is refl
reads_starts text (paren p e) ts rest h = rw h.2.is refl
reads_starts text (convert p b e) ts rest h = rw h.4.is refl
reads_starts text (list p es) ts rest h = rw h.2.is refl
reads_starts text (mapping p ps) ts rest h = rw h.2.is refl
reads_starts text (index p e i) ts rest h = reads_starts text e ts _ h.5
reads_starts text (slice p e i j) ts rest h = reads_starts text e ts _ h.7
reads_starts text (field p e n) ts rest h = reads_starts text e ts _ h.4
reads_starts text (unary p o e) ts rest h = rw h.1.is (unary_starts o)
reads_starts text (binary p o l r) ts rest h = reads_starts text l ts _ h.4

no_start_here : (s : Sign) (k : Kind) (ts : List Token) → starts_sign s ≡ false → starts_kind k ≡ true
    → sign_here s k ts ≡ None
no_start_here s (kinds.Sign r) ts f h =
    rw (false_same sign_type tt r s (λ e. clash (sym h ∙ ap starts_sign e ∙ f))) refl
  where
    clash : true ≡ false → ⊥
    clash e = cc
no_start_here s kinds.Name ts f h = refl
no_start_here s (kinds.Word w) ts f h = refl
no_start_here s (kinds.Number n) ts f h = refl
no_start_here s (kinds.Character c) ts f h = refl
no_start_here s kinds.Str ts f h = refl
no_start_here s kinds.Bytes ts f h = refl

-- a sign that begins no expression isn't where one begins
pub no_start : (s : Sign) (ts : List Token) → starts_sign s ≡ false → starts ts ≡ true → after_sign s ts ≡ None
unfolding after_sign
no_start s [] f h = refl
no_start s (t ∷ ts) f h = no_start_here s t.kind ts f h

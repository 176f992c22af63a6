-- Expressions as contracts see them: without where their parts lie in memory.
use Rattle.std.specs.Prelude.{ℕ, ◌+◌, ◌==◌, if◌then◌else◌, ℤ, Bool, List, [], ◌∷◌, max}
use Rattle.sz_types.specs.declared.place.Place.{Place}
use Rattle.sz_tree.specs.declared.operator.UnaryOp.{UnaryOp}
use Rattle.sz_tree.specs.declared.operator.BinaryOp.{BinaryOp}
use Rattle.sz_tree.specs.declared.operator.BinaryOp.TheVariants as ops
use Rattle.sz_tree.specs.declared.types.BasicType.{BasicType}
use Rattle.sz_tree.specs.Names.{Ident}

-- a literal, by its value
pub data Lit : Type 0 where
  number : ℤ → Lit
  string : List ℕ → Lit
  bytes : List ℕ → Lit
  character : ℕ → Lit
  boolean : Bool → Lit

mutual
  -- an expression, by the rule that spells it
  pub data Exp : Type 0 where
    literal : Place → Lit → Exp
    named : Ident → Exp
    call : Ident → Exps → Exp
    def : Place → Exp → Exp
    paren : Place → Exp → Exp
    convert : Place → BasicType → Exp → Exp
    list : Place → Exps → Exp
    mapping : Place → Pairs → Exp
    index : Place → Exp → Exp → Exp
    slice : Place → Exp → Exp → Exp → Exp
    field : Place → Exp → Ident → Exp
    unary : Place → UnaryOp → Exp → Exp
    binary : Place → BinaryOp → Exp → Exp → Exp

  -- expressions, one after the other
  pub data Exps : Type 0 where
    end : Exps
    more : Exp → Exps → Exps

  -- keys with their values
  pub data Pairs : Type 0 where
    no_pairs : Pairs
    pair : Exp → Exp → Pairs → Pairs

-- the same as lists
abbrev pub exps_of : List Exp → Exps
exps_of [] = end
exps_of (e ∷ es) = more e (exps_of es)

abbrev pub pairs_of : List (Exp × Exp) → Pairs
pairs_of [] = no_pairs
pairs_of (p ∷ ps) = pair p.0 p.1 (pairs_of ps)

-- the place of the first token
abbrev pub place_of : Exp → Place
place_of (literal p l) = p
place_of (named n) = n.place
place_of (call n es) = n.place
place_of (def p e) = p
place_of (paren p e) = p
place_of (convert p b e) = p
place_of (list p es) = p
place_of (mapping p ps) = p
place_of (index p e i) = p
place_of (slice p e i j) = p
place_of (field p e n) = p
place_of (unary p o e) = p
place_of (binary p o l r) = p

-- how loosely an operator binds
abbrev pub loose_of : BinaryOp → ℕ
loose_of ops.Or = 5
loose_of ops.And = 4
loose_of ops.Equal = 3
loose_of ops.NotEqual = 3
loose_of ops.Less = 3
loose_of ops.LessEqual = 3
loose_of ops.Greater = 3
loose_of ops.GreaterEqual = 3
loose_of ops.Add = 2
loose_of ops.Subtract = 2
loose_of ops.BitOr = 2
loose_of ops.BitXor = 2
loose_of ops.Multiply = 1
loose_of ops.Divide = 1
loose_of ops.Remainder = 1
loose_of ops.ShiftLeft = 1
loose_of ops.ShiftRight = 1
loose_of ops.BitAnd = 1

-- how loose the left operand of an operator of this looseness may be: a comparison is no operand of a comparison
abbrev pub left_of : ℕ → ℕ
left_of n = if n == 3 then 2 else n

-- the same of an operator
abbrev pub left_loose : BinaryOp → ℕ
left_loose o = left_of (loose_of o)

-- how loosely the outermost operator binds; 0 where none stands between operands
abbrev pub loose : Exp → ℕ
loose (binary p o l r) = loose_of o
loose _ = 0

-- an index, a slice or a field may stand after the expression
abbrev pub IsPostfix : Exp → Type 0
IsPostfix (unary p o e) = ⊥
IsPostfix (binary p o l r) = ⊥
IsPostfix _ = Unit {0}

unfoldable mutual
  -- 1 more than the greatest height of a part; names, literals and basic types are parts of height 1,
  -- and add nothing where another expression is a part
  pub height : Exp → ℕ
  height (literal p l) = 1
  height (named n) = 1
  height (call n es) = 1 + max 1 (heights es)
  height (def p e) = 1 + height e
  height (paren p e) = 1 + height e
  height (convert p b e) = 1 + height e
  height (list p es) = 1 + heights es
  height (mapping p ps) = 1 + pair_heights ps
  height (index p e i) = 1 + max (height e) (height i)
  height (slice p e i j) = 1 + max (max (height e) (height i)) (height j)
  height (field p e n) = 1 + height e
  height (unary p o e) = 1 + height e
  height (binary p o l r) = 1 + max (height l) (height r)

  -- the greatest of the heights
  pub heights : Exps → ℕ
  heights end = 0
  heights (more e es) = max (height e) (heights es)

  -- the greatest height of a key or value
  pub pair_heights : Pairs → ℕ
  pair_heights no_pairs = 0
  pair_heights (pair k v ps) = max (max (height k) (height v)) (pair_heights ps)

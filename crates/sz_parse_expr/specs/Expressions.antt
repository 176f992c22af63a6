-- Which tokens spell which expression: one case for each rule of the grammar.
use Rattle.std.specs.Prelude.{◌≡◌, ◌<◌, ◌≤◌, List}
use Rattle.sz_lex.specs.declared.token.Token.{Token}
use Rattle.sz_lex.specs.declared.token.Kind.TheVariants as kinds
use Rattle.sz_lex.specs.declared.sign.Sign.{Sign}
use Rattle.sz_lex.specs.declared.sign.Sign.TheVariants as signs
use Rattle.sz_lex.specs.declared.word.Word.{Word}
use Rattle.sz_lex.specs.declared.word.Word.TheVariants as words
use Rattle.sz_tree.specs.declared.operator.UnaryOp.{UnaryOp}
use Rattle.sz_tree.specs.declared.operator.UnaryOp.TheVariants as unaries
use Rattle.sz_tree.specs.declared.operator.BinaryOp.{BinaryOp}
use Rattle.sz_tree.specs.declared.operator.BinaryOp.TheVariants as ops
use Rattle.sz_tree.specs.declared.types.BasicType.{BasicType}
use Rattle.sz_tree.specs.declared.types.BasicType.TheVariants as basics
use Rattle.sz_tree.specs.Expressions.{Exp, literal, named, call, def, paren, convert, list, mapping, index, slice, field, unary, binary}
use Rattle.sz_tree.specs.Expressions.{Exps, end, more, Pairs, no_pairs, pair, place_of, loose_of, left_loose, loose, IsPostfix}
use Rattle.sz_parse_expr.specs.Tokens.{Spelling, At, IsSign, AtName, AtLiteral}

-- how operators are spelled
abbrev pub sign_of : BinaryOp → Sign
sign_of ops.Or = signs.OrOr
sign_of ops.And = signs.AndAnd
sign_of ops.Equal = signs.EqualEqual
sign_of ops.NotEqual = signs.NotEqual
sign_of ops.Less = signs.Less
sign_of ops.LessEqual = signs.LessEqual
sign_of ops.Greater = signs.Greater
sign_of ops.GreaterEqual = signs.GreaterEqual
sign_of ops.Add = signs.Plus
sign_of ops.Subtract = signs.Minus
sign_of ops.BitOr = signs.Or
sign_of ops.BitXor = signs.Caret
sign_of ops.Multiply = signs.Star
sign_of ops.Divide = signs.Slash
sign_of ops.Remainder = signs.Percent
sign_of ops.ShiftLeft = signs.ShiftLeft
sign_of ops.ShiftRight = signs.ShiftRight
sign_of ops.BitAnd = signs.And

abbrev pub unary_sign : UnaryOp → Sign
unary_sign unaries.Negate = signs.Minus
unary_sign unaries.Plus = signs.Plus
unary_sign unaries.Not = signs.Not
unary_sign unaries.Complement = signs.Tilde

-- how basic types are spelled
abbrev pub basic_word : BasicType → Word
basic_word basics.Bool = words.Bool
basic_word basics.Int = words.Int
basic_word basics.String = words.String
basic_word basics.Bytes = words.Bytes
basic_word basics.Time = words.Time

-- the type whose word makes a conversion
abbrev pub Converts : BasicType → Type 0
Converts basics.Bool = ⊥
Converts _ = Unit {0}

module _ (text : Spelling) where
  -- ts begins with the tokens of the expression, and rest is what follows them
  unfoldable mutual
    pub Reads : Exp → List Token → List Token → Type 0
    Reads (literal p l) ts rest = AtLiteral text p l ts rest
    Reads (named n) ts rest = AtName text n ts rest
    Reads (call n es) ts rest = (a b c : List Token) × AtName text n ts a × IsSign signs.OpenParen a b
        × ReadsArgs es b c × IsSign signs.CloseParen c rest
    Reads (def p e) ts rest =
        (a b c : List Token) × At p (kinds.Word words.Def) ts a × IsSign signs.OpenParen a b × Reads e b c
        × IsSign signs.CloseParen c rest
    Reads (paren p e) ts rest = (a b : List Token) × At p (kinds.Sign signs.OpenParen) ts a × Reads e a b
        × IsSign signs.CloseParen b rest
    Reads (convert p t e) ts rest =
        (a b c : List Token) × Converts t × At p (kinds.Word (basic_word t)) ts a × IsSign signs.OpenParen a b
        × Reads e b c × IsSign signs.CloseParen c rest
    Reads (list p es) ts rest = (a b : List Token) × At p (kinds.Sign signs.OpenBrace) ts a × ReadsArgs es a b
        × IsSign signs.CloseBrace b rest
    Reads (mapping p ps) ts rest = (a b : List Token) × At p (kinds.Sign signs.OpenBrace) ts a × ReadsEntries ps a b
        × IsSign signs.CloseBrace b rest
    Reads (index p e i) ts rest =
        (a b c : List Token) × (p ≡ place_of e) × IsPostfix e × Reads e ts a × IsSign signs.OpenBracket a b
        × Reads i b c × IsSign signs.CloseBracket c rest
    Reads (slice p e i j) ts rest = (a b c d f : List Token) × (p ≡ place_of e) × IsPostfix e × Reads e ts a
        × IsSign signs.OpenBracket a b
        × Reads i b c × IsSign signs.Colon c d × Reads j d f × IsSign signs.CloseBracket f rest
    Reads (field p e n) ts rest = (a b : List Token) × (p ≡ place_of e) × IsPostfix e × Reads e ts a
        × IsSign signs.Dot a b × AtName text n b rest
    Reads (unary p o e) ts rest = (a : List Token) × At p (kinds.Sign (unary_sign o)) ts a × (loose e ≤ 0)
        × Reads e a rest
    Reads (binary p o l r) ts rest =
        (a b : List Token) × (p ≡ place_of l) × (loose l ≤ left_loose o) × Reads l ts a × IsSign (sign_of o) a b
        × (loose r < loose_of o) × Reads r b rest

    -- nothing, or expressions with commas between them
    pub ReadsArgs : Exps → List Token → List Token → Type 0
    ReadsArgs end ts rest = ts ≡ rest
    ReadsArgs (more e es) ts rest = (a : List Token) × Reads e ts a × ReadsMore es a rest

    -- expressions with a comma before each
    pub ReadsMore : Exps → List Token → List Token → Type 0
    ReadsMore end ts rest = ts ≡ rest
    ReadsMore (more e es) ts rest = (a b : List Token) × IsSign signs.Comma ts a × Reads e a b × ReadsMore es b rest

    -- a colon, or pairs with commas between them
    pub ReadsEntries : Pairs → List Token → List Token → Type 0
    ReadsEntries no_pairs ts rest = IsSign signs.Colon ts rest
    ReadsEntries (pair k v ps) ts rest = (a b c : List Token) × Reads k ts a × IsSign signs.Colon a b × Reads v b c
        × ReadsPairs ps c rest

    -- pairs with a comma before each
    pub ReadsPairs : Pairs → List Token → List Token → Type 0
    ReadsPairs no_pairs ts rest = ts ≡ rest
    ReadsPairs (pair k v ps) ts rest =
        (a b c d : List Token) × IsSign signs.Comma ts a × Reads k a b × IsSign signs.Colon b c × Reads v c d
        × ReadsPairs ps d rest

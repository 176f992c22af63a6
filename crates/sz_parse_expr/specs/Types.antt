-- Which tokens spell which type: one case for each rule of the grammar.
use Rattle.std.specs.Prelude.{◌≡◌, Option, Some, None, List}
use Rattle.sz_lex.specs.declared.token.Token.{Token}
use Rattle.sz_lex.specs.declared.token.Kind.TheVariants as kinds
use Rattle.sz_lex.specs.declared.sign.Sign.TheVariants as signs
use Rattle.sz_lex.specs.declared.word.Word.TheVariants as words
use Rattle.sz_tree.specs.Names.{Ident}
use Rattle.sz_tree.specs.Types.{Typ, basic, type_name, array, map_type, tuple, proto, Params, no_params, param, Fields, no_fields, proto_field}
use Rattle.sz_tree.specs.Statements.{ElemForm}
use Rattle.sz_parse_expr.specs.Tokens.{Spelling, At, Is, IsSign, IsWord, AtName}
use Rattle.sz_parse_expr.specs.Expressions.{basic_word}

module _ (text : Spelling) where
  -- a name with a colon after it, or nothing
  abbrev pub ReadsLabel : Option Ident → List Token → List Token → Type 0
  ReadsLabel None ts rest = ts ≡ rest
  ReadsLabel (Some n) ts rest = (a : List Token) × AtName text n ts a × IsSign signs.Colon a rest

  -- a name, or no name
  abbrev pub ReadsName : Option Ident → List Token → List Token → Type 0
  ReadsName None ts rest = (ts ≡ rest) × ((n : Ident) (a : List Token) → AtName text n ts a → ⊥)
  ReadsName (Some n) ts rest = AtName text n ts rest

  -- ts begins with the tokens of the type, and rest is what follows them
  unfoldable mutual
    pub ReadsType : Typ → List Token → List Token → Type 0
    ReadsType (basic p b) ts rest = At p (kinds.Word (basic_word b)) ts rest
    ReadsType (type_name n) ts rest = AtName text n ts rest
    ReadsType (array p t) ts rest = (a b : List Token) × At p (kinds.Word words.Array) ts a × IsWord words.Of a b
        × ReadsType t b rest
    ReadsType (map_type p n k v) ts rest = (a b c d f g : List Token) × At p (kinds.Word words.Map) ts a
        × IsSign signs.OpenBracket a b × ReadsLabel n b c × ReadsType k c d × IsSign signs.CloseBracket d f
        × IsWord words.Of f g × ReadsType v g rest
    ReadsType (tuple p ps) ts rest = (a b : List Token) × At p (kinds.Sign signs.OpenBrace) ts a × ReadsParams ps a b
        × IsSign signs.CloseBrace b rest
    ReadsType (proto p fs) ts rest =
        (a b c : List Token) × At p (kinds.Word words.Proto) ts a × IsSign signs.OpenBrace a b × ReadsFields fs b c
        × IsSign signs.CloseBrace c rest

    -- one or more names with their types, with commas between them
    pub ReadsParams : Params → List Token → List Token → Type 0
    ReadsParams no_params ts rest = ⊥
    ReadsParams (param n t ps) ts rest = (a b c : List Token) × AtName text n ts a × IsSign signs.Colon a b
        × ReadsType t b c × ReadsMoreParams ps c rest

    -- the same with a comma before each
    pub ReadsMoreParams : Params → List Token → List Token → Type 0
    ReadsMoreParams no_params ts rest = ts ≡ rest
    ReadsMoreParams (param n t ps) ts rest =
        (a b c d : List Token) × IsSign signs.Comma ts a × AtName text n a b × IsSign signs.Colon b c
        × ReadsType t c d × ReadsMoreParams ps d rest

    -- one or more fields of a message, with commas between them
    pub ReadsFields : Fields → List Token → List Token → Type 0
    ReadsFields no_fields ts rest = ⊥
    ReadsFields (proto_field n t k l fs) ts rest =
        (a b c d f g : List Token) × AtName text n ts a × IsSign signs.Colon a b × ReadsType t b c
        × IsSign signs.At c d × Is (kinds.Number k) d f × ReadsName l f g × ReadsMoreFields fs g rest

    -- the same with a comma before each
    pub ReadsMoreFields : Fields → List Token → List Token → Type 0
    ReadsMoreFields no_fields ts rest = ts ≡ rest
    ReadsMoreFields (proto_field n t k l fs) ts rest =
        (z a b c d f g : List Token) × IsSign signs.Comma ts z × AtName text n z a
        × IsSign signs.Colon a b × ReadsType t b c × IsSign signs.At c d × Is (kinds.Number k) d f × ReadsName l f g
        × ReadsMoreFields fs g rest

  -- a type, with a name and a colon before it or without
  unfoldable pub ReadsElem : ElemForm → List Token → List Token → Type 0
  ReadsElem e ts rest = (a : List Token) × ReadsLabel e.name ts a × ReadsType e.of a rest

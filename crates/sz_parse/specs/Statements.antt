-- Which tokens spell which statement: one case for each rule of the grammar.
use Rattle.std.specs.Prelude.{◌≡◌, ℤ, Option, Some, None, List, [], ◌∷◌}
use Rattle.sz_lex.specs.declared.token.Token.{Token}
use Rattle.sz_lex.specs.declared.token.Kind.TheVariants as kinds
use Rattle.sz_lex.specs.declared.sign.Sign.{Sign}
use Rattle.sz_lex.specs.declared.sign.Sign.TheVariants as signs
use Rattle.sz_lex.specs.declared.word.Word.{Word}
use Rattle.sz_lex.specs.declared.word.Word.TheVariants as words
use Rattle.sz_tree.specs.declared.stmt.Quantity.{Quantity}
use Rattle.sz_tree.specs.declared.stmt.Quantity.TheVariants as quantities
use Rattle.sz_tree.specs.Names.{Ident}
use Rattle.sz_tree.specs.Expressions.{Exp, exps_of}
use Rattle.sz_tree.specs.Types.{Params, no_params, param}
use Rattle.sz_tree.specs.Statements.{StepForm, at_index, at_field, SimpleForm, assign, increment, decrement, call_of, FirstForm}
use Rattle.sz_tree.specs.Statements.{first_declare, first_define, first_simple, ElemForm, TableForm, QuantifierForm, Stm, empty, block}
use Rattle.sz_tree.specs.Statements.{declare, define, static, typedef, table, function, simple, if_only, if_else, while, do_while, for_loop}
use Rattle.sz_tree.specs.Statements.{break, continue, return, emit, when, Stms, no_stms, stm}
use Rattle.sz_parse_expr.specs.Tokens.{Spelling, At, Is, IsSign, IsWord, AtName, Many}
use Rattle.sz_parse_expr.specs.Expressions.{Reads, ReadsArgs}
use Rattle.sz_parse_expr.specs.Types.{ReadsType, ReadsParams, ReadsElem}

-- how quantities are spelled
abbrev pub quantity_word : Quantity → Word
quantity_word quantities.Some = words.Some
quantity_word quantities.Each = words.Each
quantity_word quantities.All = words.All

-- what R reads, or nothing
abbrev pub Perhaps : {A : Type 0} → (A → List Token → List Token → Type 0) → Option A → List Token → List Token → Type 0
Perhaps R None ts rest = ts ≡ rest
Perhaps R (Some x) ts rest = R x ts rest

-- the next token is no `else`
abbrev pub NotElse : List Token → Type 0
NotElse ts = (rest : List Token) → IsWord words.Else ts rest → ⊥

-- a number in parentheses
abbrev pub ReadsArgument : ℤ → List Token → List Token → Type 0
ReadsArgument n ts rest = (a b : List Token) × IsSign signs.OpenParen ts a × Is (kinds.Number n) a b
    × IsSign signs.CloseParen b rest

module _ (text : Spelling) where
  -- a sign or a word and an expression after it
  abbrev pub ReadsAfter : Sign → Exp → List Token → List Token → Type 0
  ReadsAfter s e ts rest = (a : List Token) × IsSign s ts a × Reads text e a rest

  abbrev pub ReadsWeight : Exp → List Token → List Token → Type 0
  ReadsWeight e ts rest = (a : List Token) × IsWord words.Weight ts a × Reads text e a rest

  -- an expression in brackets
  abbrev pub ReadsIndex : Exp → List Token → List Token → Type 0
  ReadsIndex e ts rest = (a b : List Token) × IsSign signs.OpenBracket ts a × Reads text e a b
      × IsSign signs.CloseBracket b rest

  -- a step of a path
  abbrev pub ReadsStep : StepForm → List Token → List Token → Type 0
  ReadsStep (at_index e) ts rest = ReadsIndex e ts rest
  ReadsStep (at_field n) ts rest = (a : List Token) × IsSign signs.Dot ts a × AtName text n a rest

  -- a statement that may stand as a step of a `for`
  unfoldable pub ReadsSimple : SimpleForm → List Token → List Token → Type 0
  ReadsSimple (assign p e) ts rest = (a b c : List Token) × AtName text p.name ts a × Many ReadsStep p.steps a b
      × IsSign signs.Assign b c × Reads text e c rest
  ReadsSimple (increment n) ts rest = (a : List Token) × AtName text n ts a × IsSign signs.Increment a rest
  ReadsSimple (decrement n) ts rest = (a : List Token) × AtName text n ts a × IsSign signs.Decrement a rest
  ReadsSimple (call_of n es) ts rest =
      (a b c : List Token) × AtName text n ts a × IsSign signs.OpenParen a b × ReadsArgs text es b c
      × IsSign signs.CloseParen c rest

  -- the first part of a `for`
  unfoldable pub ReadsFirst : FirstForm → List Token → List Token → Type 0
  ReadsFirst (first_declare n t e) ts rest =
      (a b c d : List Token) × AtName text n ts a × IsSign signs.Colon a b × ReadsType text t b c
      × IsSign signs.Assign c d × Reads text e d rest
  ReadsFirst (first_define n e) ts rest = (a b : List Token) × AtName text n ts a × IsSign signs.Define a b
      × Reads text e b rest
  ReadsFirst (first_simple s) ts rest = ReadsSimple s ts rest

  -- an index of a table in brackets, and the part after `weight`
  abbrev pub ReadsTableIndex : ElemForm → List Token → List Token → Type 0
  ReadsTableIndex e ts rest = (a b : List Token) × IsSign signs.OpenBracket ts a × ReadsElem text e a b
      × IsSign signs.CloseBracket b rest

  abbrev pub ReadsTableWeight : ElemForm → List Token → List Token → Type 0
  ReadsTableWeight e ts rest = (a : List Token) × IsWord words.Weight ts a × ReadsElem text e a rest

  -- what stands after `table`, up to the semicolon
  unfoldable pub ReadsTable : TableForm → List Token → List Token → Type 0
  ReadsTable t ts rest =
      (a b c d f g : List Token) × AtName text t.kind ts a × Perhaps ReadsArgument t.argument a b
      × Many ReadsTableIndex t.indexes b c × IsWord words.Of c d
      × ReadsElem text t.of d f × Perhaps ReadsTableWeight t.weight f g × IsSign signs.Semicolon g rest

  -- a comma and a name
  abbrev pub ReadsNextName : Ident → List Token → List Token → Type 0
  ReadsNextName n ts rest = (a : List Token) × IsSign signs.Comma ts a × AtName text n a rest

  -- one or more names with commas between them
  abbrev pub ReadsNames : List Ident → List Token → List Token → Type 0
  ReadsNames [] ts rest = ⊥
  ReadsNames (n ∷ ns) ts rest = (a : List Token) × AtName text n ts a × Many ReadsNextName ns a rest

  -- a quantifier with its semicolon
  unfoldable pub ReadsQuantifier : QuantifierForm → List Token → List Token → Type 0
  ReadsQuantifier q ts rest = (a b c d : List Token) × ReadsNames q.names ts a × IsSign signs.Colon a b
      × IsWord (quantity_word q.quantity) b c × ReadsType text q.of c d × IsSign signs.Semicolon d rest

  -- one or more quantifiers
  abbrev pub ReadsQuantifiers : List QuantifierForm → List Token → List Token → Type 0
  ReadsQuantifiers [] ts rest = ⊥
  ReadsQuantifiers (q ∷ qs) ts rest = (a : List Token) × ReadsQuantifier q ts a × Many ReadsQuantifier qs a rest

  -- nothing, or names with their types and commas between them
  abbrev pub ReadsDeclared : Params → List Token → List Token → Type 0
  ReadsDeclared no_params ts rest = ts ≡ rest
  ReadsDeclared (param n t ps) ts rest = ReadsParams text (param n t ps) ts rest

  -- a condition in parentheses
  abbrev pub ReadsCondition : Exp → List Token → List Token → Type 0
  ReadsCondition e ts rest = (a b : List Token) × IsSign signs.OpenParen ts a × Reads text e a b
      × IsSign signs.CloseParen b rest

  -- ts begins with the tokens of the statement, and rest is what follows them
  unfoldable mutual
    pub ReadsStm : Stm → List Token → List Token → Type 0
    ReadsStm (empty p) ts rest = At p (kinds.Sign signs.Semicolon) ts rest
    ReadsStm (block p ss) ts rest = (a b : List Token) × At p (kinds.Sign signs.OpenBrace) ts a × ReadsStms ss a b
        × IsSign signs.CloseBrace b rest
    ReadsStm (declare n t e) ts rest = (a b c d : List Token) × AtName text n ts a × IsSign signs.Colon a b
        × ReadsType text t b c × Perhaps (ReadsAfter signs.Assign) e c d × IsSign signs.Semicolon d rest
    ReadsStm (define n e) ts rest = (a b c : List Token) × AtName text n ts a × IsSign signs.Define a b
        × Reads text e b c × IsSign signs.Semicolon c rest
    ReadsStm (static p n t e) ts rest = (a b c d f g : List Token) × At p (kinds.Word words.Static) ts a
        × AtName text n a b × IsSign signs.Colon b c
        × ReadsType text t c d × IsSign signs.Assign d f × Reads text e f g × IsSign signs.Semicolon g rest
    ReadsStm (typedef p n t) ts rest = (a b c d : List Token) × At p (kinds.Word words.Type) ts a × AtName text n a b
        × IsSign signs.Assign b c × ReadsType text t c d × IsSign signs.Semicolon d rest
    ReadsStm (table n t) ts rest = (a b c : List Token) × AtName text n ts a × IsSign signs.Colon a b
        × IsWord words.Table b c × ReadsTable t c rest
    ReadsStm (function n ps t ss) ts rest =
        (a b c d f g h i j k : List Token) × AtName text n ts a × IsSign signs.Colon a b
        × IsWord words.Function b c × IsSign signs.OpenParen c d × ReadsDeclared ps d f × IsSign signs.CloseParen f g
        × IsSign signs.Colon g h × ReadsType text t h i × IsSign signs.OpenBrace i j × ReadsStms ss j k
        × IsSign signs.CloseBrace k rest
    ReadsStm (simple s) ts rest = (a : List Token) × ReadsSimple s ts a × IsSign signs.Semicolon a rest
    ReadsStm (if_only p c s) ts rest = (a b : List Token) × At p (kinds.Word words.If) ts a × ReadsCondition c a b
        × ReadsStm s b rest × NotElse rest
    ReadsStm (if_else p c s t) ts rest =
        (a b d f : List Token) × At p (kinds.Word words.If) ts a × ReadsCondition c a b × ReadsStm s b d
        × IsWord words.Else d f × ReadsStm t f rest
    ReadsStm (while p c s) ts rest = (a b : List Token) × At p (kinds.Word words.While) ts a × ReadsCondition c a b
        × ReadsStm s b rest
    ReadsStm (do_while p s c) ts rest = (a b d f : List Token) × At p (kinds.Word words.Do) ts a × ReadsStm s a b
        × IsWord words.While b d × ReadsCondition c d f × IsSign signs.Semicolon f rest
    ReadsStm (for_loop p f c t s) ts rest = (a b d g h i j k : List Token) × At p (kinds.Word words.For) ts a
        × IsSign signs.OpenParen a b × Perhaps ReadsFirst f b d × IsSign signs.Semicolon d g
        × Perhaps (Reads text) c g h × IsSign signs.Semicolon h i × Perhaps ReadsSimple t i j
        × IsSign signs.CloseParen j k × ReadsStm s k rest
    ReadsStm (break p) ts rest = (a : List Token) × At p (kinds.Word words.Break) ts a × IsSign signs.Semicolon a rest
    ReadsStm (continue p) ts rest =
        (a : List Token) × At p (kinds.Word words.Continue) ts a × IsSign signs.Semicolon a rest
    ReadsStm (return p e) ts rest = (a b : List Token) × At p (kinds.Word words.Return) ts a
        × Perhaps (Reads text) e a b × IsSign signs.Semicolon b rest
    ReadsStm (emit p n es e w) ts rest = (is : List Exp) × (a b c d f g : List Token) × (es ≡ exps_of is)
        × At p (kinds.Word words.Emit) ts a × AtName text n a b × Many ReadsIndex is b c × IsSign signs.Arrow c d
        × Reads text e d f × Perhaps ReadsWeight w f g × IsSign signs.Semicolon g rest
    ReadsStm (when p qs c s) ts rest = (a b d f g : List Token) × At p (kinds.Word words.When) ts a
        × IsSign signs.OpenParen a b
        × ReadsQuantifiers qs b d × Reads text c d f × IsSign signs.CloseParen f g × ReadsStm s g rest

    -- statements, one after the other
    pub ReadsStms : Stms → List Token → List Token → Type 0
    ReadsStms no_stms ts rest = ts ≡ rest
    ReadsStms (stm s ss) ts rest = (a : List Token) × ReadsStm s ts a × ReadsStms ss a rest

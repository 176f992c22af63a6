-- Tables and quantifiers are read as they are spelled.
use Rattle.std.proofs.Common.{◌≡◌, ℕ, ℤ, ◌≤◌, true, false, List, [], ◌∷◌, Option, Some, None, refl, ap, arith}
use denote.Enum.Bare.{sameb, false_same}
use Rattle.sz_lex.specs.declared.token.Token.{Token}
use Rattle.sz_lex.specs.declared.sign.Sign.{Sign}
use Rattle.sz_lex.specs.declared.sign.Sign.TheVariants as signs
use Rattle.sz_lex.specs.declared.word.Word.{Word}
use Rattle.sz_lex.specs.declared.word.Word.TheVariants as words
use Rattle.sz_lex.specs.contracts.sign.Sign.{the_type as sign_type}
use Rattle.sz_tree.specs.declared.types.BasicType.TheVariants as basics
use Rattle.sz_tree.specs.declared.operator.BinaryOp.{BinaryOp}
use Rattle.sz_tree.specs.declared.stmt.Quantity.{Quantity}
use Rattle.sz_tree.specs.declared.stmt.Quantity.TheVariants as quantities
use Rattle.sz_tree.specs.Names.{Ident}
use Rattle.sz_tree.specs.Expressions.{Lit, number, string, bytes, character, boolean, Exp}
use Rattle.sz_tree.specs.Expressions as trees
use Rattle.sz_tree.specs.Types.{Typ, Params, no_params, param, params_of, param_heights}
use Rattle.sz_tree.specs.Types as types
use Rattle.sz_tree.specs.Statements.{ElemForm, TableForm, QuantifierForm}
use Rattle.sz_tree.specs.Statements.{part_height, greatest, elem_height, quantifier_height, table_height}
use Rattle.sz_parse_expr.specs.Tokens.{Spelling, IsSign, IsWord, IsLiteral, Many}
use Rattle.sz_parse_expr.specs.Expressions.{sign_of, Reads}
use Rattle.sz_parse_expr.specs.Types.{ReadsType, ReadsElem}
use Rattle.sz_parse.specs.Statements.{quantity_word, Perhaps}
use Rattle.sz_parse.specs.Statements.{ReadsTableIndex, ReadsTableWeight, ReadsArgument, ReadsTable, ReadsNextName, ReadsNames}
use Rattle.sz_parse.specs.Statements.{ReadsQuantifier, ReadsQuantifiers, ReadsDeclared}
use Rattle.sz_parse_expr.specs.Reading.{Read, after_sign, after_word, name_here, name_at}
use Rattle.sz_parse_expr.specs.ReadingTypes.{SubType, elem_at}
use Rattle.sz_parse.specs.ReadingTables.{argument_at, table_index_at, table_index_step}
use Rattle.sz_parse.specs.ReadingTables.{table_weight_at, table_at, name_step, names_later, names_at, quantity_at, quantifier_at}
use Rattle.sz_parse.specs.ReadingTables.{begins_quantifier, quantifier_step, quantifiers_after, quantifiers_at}
use Rattle.sz_parse.specs.ReadingStatements.{declared_at}
use Rattle.sz_parse_expr.proofs.Steps.{bind_step, bind_none, choose_some, choose_none}
use Rattle.sz_parse_expr.proofs.Items.{IsFound, Low, all_complete, many_join}
use Rattle.sz_parse_expr.proofs.TokenLemmas.{after_sign_is, other_sign, after_word_is, name_is}
use Rattle.sz_parse_expr.proofs.OperatorLemmas.{sign_grip}
use Rattle.sz_parse_expr.proofs.OperatorLemmas.{looseness}
use Rattle.sz_parse_expr.proofs.TypeSound.{IsSoundType}
use Rattle.sz_parse_expr.proofs.TypeComplete.{IsCompleteType, number_is, elem_complete, params_complete}
use Rattle.sz_parse.proofs.TableSound.{table_index_item, name_item, quantifier_item}
use Rattle.sz_parse.proofs.SimpleComplete.{word_at_sign, sign_at_word, sign_at_name}

-- ---- tables and quantifiers

-- no type begins with the words of a table or a function
pub no_table : (text : Spelling) (t : Typ) (ts rest : List Token) → ReadsType text t ts rest
    → (after_word words.Table ts ≡ None) × (after_word words.Function ts ≡ None)
unfolding ReadsType after_word
no_table text (types.basic p basics.Bool) ts rest re = (rw re.is refl, rw re.is refl)
no_table text (types.basic p basics.Int) ts rest re = (rw re.is refl, rw re.is refl)
no_table text (types.basic p basics.String) ts rest re = (rw re.is refl, rw re.is refl)
no_table text (types.basic p basics.Bytes) ts rest re = (rw re.is refl, rw re.is refl)
no_table text (types.basic p basics.Time) ts rest re = (rw re.is refl, rw re.is refl)
no_table text (types.type_name n) ts rest re = (rw re.is refl, rw re.is refl)
no_table text (types.array p t) ts rest re = (rw re.2.is refl, rw re.2.is refl)
no_table text (types.map_type p n k v) ts rest re = (rw re.6.is refl, rw re.6.is refl)
no_table text (types.tuple p ps) ts rest re = (rw re.2.is refl, rw re.2.is refl)
no_table text (types.proto p fs) ts rest re = (rw re.3.is refl, rw re.3.is refl)

literal_no_name : (text : Spelling) (l : Lit) (t : Token) (rest : List Token) → IsLiteral text l t
    → name_here text t t.kind rest ≡ None
literal_no_name text (number n) t rest h = rw h refl
literal_no_name text (string v) t rest h = rw h.0 refl
literal_no_name text (bytes v) t rest h = rw h.0 refl
literal_no_name text (character c) t rest h = rw h refl
literal_no_name text (boolean true) t rest h = rw h refl
literal_no_name text (boolean false) t rest h = rw h refl

-- an operator is no comma and no colon
operator_no_comma : (o : BinaryOp) (z : Sign) → sign_grip z ≡ 6 → sign_grip (sign_of o) ≤ 5
    → sameb sign_type (sign_of o) z ≡ false
operator_no_comma o z six most = false_same sign_type tt (sign_of o) z (λ e. clash (ap sign_grip e))
  where
    clash : sign_grip (sign_of o) ≡ sign_grip z → ⊥
    clash e = omega (arith, e, six, most)

-- where an expression begins, and no comma or colon follows it, no quantifier begins
pub no_quantifier : (text : Spelling) (e : Exp) (ts rest : List Token) → Reads text e ts rest
    → after_sign signs.Comma rest ≡ None → after_sign signs.Colon rest ≡ None → begins_quantifier text ts ≡ None
unfolding Reads begins_quantifier name_at
no_quantifier text (trees.literal p l) ts rest re c m =
    bind_none _ _ (rw re.is (literal_no_name text l re.here rest re.means))
no_quantifier text (trees.named n) ts rest re c m =
    bind_step _ _ _ _ (name_is text n ts rest re) (choose_none _ _ _ _ c m)
no_quantifier text (trees.call n es) ts rest re c m =
    bind_step _ _ _ _ (name_is text n ts re.0 re.3)
    (choose_none _ _ _ _ (other_sign signs.Comma signs.OpenParen re.0 re.1 re.4 refl)
    (other_sign signs.Colon signs.OpenParen re.0 re.1 re.4 refl))
no_quantifier text (trees.def p e) ts rest re c m = bind_none _ _ (rw re.3.is refl)
no_quantifier text (trees.paren p e) ts rest re c m = bind_none _ _ (rw re.2.is refl)
no_quantifier text (trees.convert p t e) ts rest re c m = bind_none _ _ (rw re.4.is refl)
no_quantifier text (trees.list p es) ts rest re c m = bind_none _ _ (rw re.2.is refl)
no_quantifier text (trees.mapping p ps) ts rest re c m = bind_none _ _ (rw re.2.is refl)
no_quantifier text (trees.unary p o e) ts rest re c m = bind_none _ _ (rw re.1.is refl)
no_quantifier text (trees.index p e i) ts rest re c m =
    no_quantifier text e ts re.0 re.5 (other_sign signs.Comma signs.OpenBracket re.0 re.1 re.6 refl)
    (other_sign signs.Colon signs.OpenBracket re.0 re.1 re.6 refl)
no_quantifier text (trees.slice p e i j) ts rest re c m =
    no_quantifier text e ts re.0 re.7 (other_sign signs.Comma signs.OpenBracket re.0 re.1 re.8 refl)
    (other_sign signs.Colon signs.OpenBracket re.0 re.1 re.8 refl)
no_quantifier text (trees.field p e n) ts rest re c m =
    no_quantifier text e ts re.0 re.4 (other_sign signs.Comma signs.Dot re.0 re.1 re.5 refl)
    (other_sign signs.Colon signs.Dot re.0 re.1 re.5 refl)
no_quantifier text (trees.binary p o l r) ts rest re c m =
    let most : sign_grip (sign_of o) ≤ 5 = omega (arith, (looseness o).grips, (looseness o).most) in
    no_quantifier text l ts re.0 re.4
    (other_sign signs.Comma (sign_of o) re.0 re.1 re.5 (operator_no_comma o signs.Comma refl most))
    (other_sign signs.Colon (sign_of o) re.0 re.1 re.5 (operator_no_comma o signs.Colon refl most))

argument_complete : (n : Option ℤ) (ts rest : List Token) → Perhaps ReadsArgument n ts rest
    → after_sign signs.OpenParen rest ≡ None → argument_at ts ≡ Some (n, rest)
unfolding argument_at
argument_complete None ts rest p none = rw p (choose_none _ _ _ _ none refl)
argument_complete (Some n) ts rest p none =
    choose_some _ _ _ _ _ (after_sign_is signs.OpenParen ts p.0 p.2)
    (bind_step _ _ _ _ (number_is n p.0 p.1 p.3) (bind_step _ _ _ _ (after_sign_is signs.CloseParen p.1 rest p.4) refl))

quantity_is : (q : Quantity) (ts rest : List Token) → IsWord (quantity_word q) ts rest → quantity_at ts ≡ Some (q, rest)
unfolding quantity_at
quantity_is quantities.Some ts rest h = rw h.is (bind_step _ _ _ _ refl refl)
quantity_is quantities.Each ts rest h = rw h.is (bind_step _ _ _ _ refl refl)
quantity_is quantities.All ts rest h = rw h.is (bind_step _ _ _ _ refl refl)

module _ (text : Spelling) (ty : SubType) (d : ℕ) (s : IsSoundType text ty d) (h : IsCompleteType text ty d) where
  whole_elem : (e : ElemForm) (ts rest : List Token) → ReadsElem text e ts rest → elem_height e ≤ d
      → after_sign signs.Colon rest ≡ None → elem_at text ty ts ≡ Some (e, rest)
  unfolding ReadsElem
  whole_elem e ts rest re low none = elem_complete text ty d s h e.name e.of ts re.0 rest re.1 re.2 low none

  table_index_found : IsFound (table_index_step text ty) (Low (ReadsTableIndex text) elem_height d) (λ ts. Unit {0})
  unfolding table_index_step table_index_at
  table_index_found = record {
    found = λ x ts rest i g. choose_some _ _ _ _ _ (after_sign_is signs.OpenBracket ts i.0.0 i.0.2)
        (ap (λ (r : Read ElemForm). Some r) (bind_step _ _ _ _
        (whole_elem x i.0.0 i.0.1 i.0.3 i.1 (other_sign signs.Colon signs.CloseBracket i.0.1 rest i.0.4 refl))
        (bind_step _ _ _ _ (after_sign_is signs.CloseBracket i.0.1 rest i.0.4) refl)));
    begins = λ x ts rest i. tt;
  }

  no_table_index : (w : Word) (ts rest : List Token) → IsWord w ts rest → table_index_step text ty ts ≡ None
  unfolding table_index_step table_index_at
  no_table_index w ts rest c = choose_none _ _ _ _ (sign_at_word signs.OpenBracket w ts rest c) refl

  table_weight_complete : (e : Option ElemForm) (ts rest after : List Token) → Perhaps (ReadsTableWeight text) e ts rest
      → part_height elem_height e ≤ d → IsSign signs.Semicolon rest after
      → (table_weight_at text ty ts ≡ Some (e, rest)) × (after_sign signs.Colon ts ≡ None)
  unfolding table_weight_at
  table_weight_complete None ts rest after p low c = (
    rw p (choose_none _ _ _ _ (word_at_sign words.Weight signs.Semicolon rest after c) refl),
    rw p (other_sign signs.Colon signs.Semicolon rest after c refl),
  )
  table_weight_complete (Some e) ts rest after p low c = (
    choose_some _ _ _ _ _ (after_word_is words.Weight ts p.0 p.1)
        (bind_step _ _ _ _
        (whole_elem e p.0 rest p.2 low (other_sign signs.Colon signs.Semicolon rest after c refl)) refl),
    sign_at_word signs.Colon words.Weight ts p.0 p.1,
  )

  -- what stands after the argument of a table is no parenthesis
  table_no_paren : (xs : List ElemForm) (ts a b : List Token) → Many (ReadsTableIndex text) xs ts a
      → IsWord words.Of a b → after_sign signs.OpenParen ts ≡ None
  unfolding Many
  table_no_paren [] ts a b m w = rw m (sign_at_word signs.OpenParen words.Of a b w)
  table_no_paren (x ∷ xs) ts a b m w = other_sign signs.OpenParen signs.OpenBracket ts _ m.1.2 refl

  pub table_complete : (t : TableForm) (ts rest : List Token) → ReadsTable text t ts rest → table_height t ≤ d
      → table_at text ty ts ≡ Some (t, rest)
  unfolding table_at ReadsTable
  table_complete t ts rest re low =
      let m = all_complete (table_index_item text ty d s) table_index_found t.indexes re.1 re.2
      (many_join (ReadsTableIndex text) elem_height d t.indexes re.1 re.2 re.8 (omega arith)) tt
      (no_table_index words.Of re.2 re.3 re.9) in
      let w = table_weight_complete t.weight re.4 re.5 rest re.11 (omega arith) re.12 in
      bind_step _ _ _ _ (name_is text t.kind ts re.0 re.6)
      (bind_step _ _ _ _ (argument_complete t.argument re.0 re.1 re.7
      (table_no_paren t.indexes re.1 re.2 re.3 re.8 re.9)) (bind_step _ _ _ _ m
      (bind_step _ _ _ _ (after_word_is words.Of re.2 re.3 re.9)
      (bind_step _ _ _ _ (whole_elem t.of re.3 re.4 re.10 (omega arith) w.1) (bind_step _ _ _ _ w.0
      (bind_step _ _ _ _ (after_sign_is signs.Semicolon re.5 rest re.12) refl))))))

  name_found : IsFound (name_step text) (ReadsNextName text) (λ ts. Unit {0})
  unfolding name_step
  name_found = record {
    found = λ x ts rest i g. choose_some _ _ _ _ _ (after_sign_is signs.Comma ts i.0 i.1)
        (ap (λ (r : Read Ident). Some r) (name_is text x i.0 rest i.2));
    begins = λ x ts rest i. tt;
  }

  no_name_step : (ts rest : List Token) → IsSign signs.Colon ts rest → name_step text ts ≡ None
  unfolding name_step
  no_name_step ts rest c = choose_none _ _ _ _ (other_sign signs.Comma signs.Colon ts rest c refl) refl

  names_complete : (ns : List Ident) (ts rest after : List Token) → ReadsNames text ns ts rest
      → IsSign signs.Colon rest after → names_at text ts ≡ Some (ns, rest)
  unfolding names_at names_later
  names_complete [] ts rest after re c = absurd re
  names_complete (n ∷ ns) ts rest after re c =
      bind_step _ _ _ _ (name_is text n ts re.0 re.1)
      (bind_step _ _ _ _
      (all_complete (name_item text ty d s) name_found ns re.0 rest re.2 tt (no_name_step rest after c)) refl)

  quantifier_complete : (q : QuantifierForm) (ts rest : List Token) → ReadsQuantifier text q ts rest
      → quantifier_height q ≤ d → quantifier_at text ty ts ≡ Some (q, rest)
  unfolding quantifier_at ReadsQuantifier
  quantifier_complete q ts rest re low =
      bind_step _ _ _ _ (names_complete q.names ts re.0 re.1 re.4 re.5)
      (bind_step _ _ _ _ (after_sign_is signs.Colon re.0 re.1 re.5)
      (bind_step _ _ _ _ (quantity_is q.quantity re.1 re.2 re.6) (bind_step _ _ _ _ (h q.of re.2 re.3 re.7 low)
      (bind_step _ _ _ _ (after_sign_is signs.Semicolon re.3 rest re.8) refl))))

  -- where a quantifier stands, one begins
  names_begin : (ns : List Ident) (ts rest after : List Token) → ReadsNames text ns ts rest
      → IsSign signs.Colon rest after → (r : List Token) × (begins_quantifier text ts ≡ Some r)
  unfolding begins_quantifier Many
  names_begin [] ts rest after re c = absurd re
  names_begin (n ∷ []) ts rest after re c = (
    after,
    bind_step _ _ _ _ (name_is text n ts re.0 re.1)
        (rw re.2 (choose_none _ _ _ _ (other_sign signs.Comma signs.Colon rest after c refl)
        (after_sign_is signs.Colon rest after c))),
  )
  names_begin (n ∷ (m ∷ ns)) ts rest after re c = (
    re.2.1.0,
    bind_step _ _ _ _ (name_is text n ts re.0 re.1)
        (choose_some _ _ _ _ _ (after_sign_is signs.Comma re.0 re.2.1.0 re.2.1.1) refl),
  )

  quantifier_begins : (q : QuantifierForm) (ts rest : List Token) → ReadsQuantifier text q ts rest
      → (r : List Token) × (begins_quantifier text ts ≡ Some r)
  unfolding ReadsQuantifier
  quantifier_begins q ts rest re = names_begin q.names ts re.0 re.1 re.4 re.5

  quantifier_found : IsFound (quantifier_step text ty) (Low (ReadsQuantifier text) quantifier_height d) (λ ts. Unit {0})
  unfolding quantifier_step
  quantifier_found = record {
    found = λ x ts rest i g. choose_some _ _ _ _ _ (quantifier_begins x ts rest i.0).1
        (ap (λ (r : Read QuantifierForm). Some r) (quantifier_complete x ts rest i.0 i.1));
    begins = λ x ts rest i. tt;
  }

  pub quantifiers_complete : (qs : List QuantifierForm) (ts rest : List Token) → ReadsQuantifiers text qs ts rest
      → greatest quantifier_height qs ≤ d
      → begins_quantifier text rest ≡ None → quantifiers_at text ty ts ≡ Some (qs, rest)
  unfolding quantifiers_at quantifiers_after quantifier_step
  quantifiers_complete [] ts rest re low none = absurd re
  quantifiers_complete (q ∷ qs) ts rest re low none =
      let m = all_complete (quantifier_item text ty d s) quantifier_found qs re.0 rest
      (many_join (ReadsQuantifier text) quantifier_height d qs re.0 rest re.2 (omega arith)) tt
      (choose_none _ _ _ _ none refl) in
      bind_step _ _ _ _ (quantifier_complete q ts re.0 re.1 (omega arith)) (bind_step _ _ _ _ m refl)

  pub declared_complete : (ps : Params) (ts rest after : List Token) → ReadsDeclared text ps ts rest
      → param_heights ps ≤ d → IsSign signs.CloseParen rest after
      → (x : List (Ident × Typ)) × (declared_at text ty ts ≡ Some (x, rest)) × (params_of x ≡ ps)
  unfolding declared_at ReadsType
  declared_complete no_params ts rest after re low c =
      ([], rw re (choose_some _ _ _ _ _ (after_sign_is signs.CloseParen rest after c) refl), refl)
  declared_complete (param n t ps) ts rest after re low c =
      let m = params_complete text ty d s h signs.CloseParen (param n t ps) ts rest after re low c refl in
      (m.0, choose_none _ _ _ _ (sign_at_name text signs.CloseParen n ts re.0 re.3) m.1, m.2)

-- What is read as a table or a quantifier is spelled so.
use Rattle.std.proofs.Common.{◌≡◌, ℕ, ◌≤◌, List, [], ◌∷◌, refl, ap, ◌∙◌, arith}
use Rattle.sz_lex.specs.declared.token.Token.{Token}
use Rattle.sz_lex.specs.declared.token.Kind.{Kind}
use Rattle.sz_lex.specs.declared.token.Kind.TheVariants as kinds
use Rattle.sz_lex.specs.declared.sign.Sign.TheVariants as signs
use Rattle.sz_lex.specs.declared.word.Word.{Word}
use Rattle.sz_lex.specs.declared.word.Word.TheVariants as words
use Rattle.sz_tree.specs.Names.{Ident}
use Rattle.sz_tree.specs.Types.{Typ, params_of, type_height, param_heights}
use Rattle.sz_tree.specs.Statements.{greatest, elem_height, quantifier_height, table_height}
use Rattle.sz_parse_expr.specs.Tokens.{Spelling, token, IsWord}
use Rattle.sz_parse_expr.specs.Types.{ReadsType, ReadsElem, ReadsParams}
use Rattle.sz_parse.specs.Statements.{quantity_word, Perhaps}
use Rattle.sz_parse.specs.Statements.{ReadsTableIndex, ReadsTableWeight, ReadsArgument, ReadsTable, ReadsNextName, ReadsNames}
use Rattle.sz_parse.specs.Statements.{ReadsQuantifier, ReadsQuantifiers, ReadsDeclared}
use Rattle.sz_parse_expr.specs.ReadingTypes.{SubType}
use Rattle.sz_parse.specs.ReadingTables.{argument_at, table_index_at, table_index_step}
use Rattle.sz_parse.specs.ReadingTables.{table_weight_at, table_at, name_step, names_later, names_at, quantity_of, quantity_here}
use Rattle.sz_parse.specs.ReadingTables.{quantity_at, quantifier_at, begins_quantifier, quantifier_step, quantifiers_after}
use Rattle.sz_parse.specs.ReadingTables.{quantifiers_at}
use Rattle.sz_parse.specs.ReadingStatements.{declared_at}
use Rattle.sz_parse_expr.proofs.Holds.{Holds, some_holds, none_holds, bind_holds, choose_holds, chosen_holds, weaker}
use Rattle.sz_parse_expr.proofs.Items.{IsItem, Low, all_sound, many_split, known}
use Rattle.sz_parse_expr.proofs.TokenLemmas.{after_sign_sound, after_word_sound, name_sound, is_length, name_length}
use Rattle.sz_parse_expr.proofs.TypeSound.{IsSoundType, number_sound, elem_sound, params_sound}
use Rattle.sz_parse.proofs.SimpleSound.{label_elem_shorter, one_quantifier_shorter, ParsedPart}

-- ---- tables and quantifiers

argument_sound : (ts : List Token) → Holds (argument_at ts) (λ x. Perhaps ReadsArgument x.0 ts x.1)
unfolding argument_at
argument_sound ts = choose_holds (after_sign_sound signs.OpenParen ts) (some_holds _ _ refl)
    (λ a o. bind_holds (number_sound a)
    (λ n g. bind_holds (after_sign_sound signs.CloseParen n.1) (λ r c. some_holds _ _ (a, n.1, o, g, c))))

module _ (text : Spelling) (ty : SubType) (d : ℕ) (h : IsSoundType text ty d) where
  table_index_sound : (ts : List Token)
      → Holds (table_index_step text ty ts) (λ r. Holds r (λ x. Low (ReadsTableIndex text) elem_height d x.0 ts x.1))
  unfolding table_index_step table_index_at ReadsElem
  table_index_sound ts =
      choose_holds (after_sign_sound signs.OpenBracket ts) (none_holds _)
      (λ a o. some_holds _ _
      (bind_holds (elem_sound text ty d h a) (λ e g. bind_holds (after_sign_sound signs.CloseBracket e.1) (λ r c.
      some_holds _ _ ((a, e.1, o, (g.later, g.label, g.reads), c), g.low)))))

  pub table_index_item : IsItem (table_index_step text ty) (Low (ReadsTableIndex text) elem_height d)
  table_index_item = record {
    sound = λ ts r e. (table_index_sound ts).holds r e;
    shorter =
        λ x ts rest i. omega (arith, is_length i.0.2, label_elem_shorter text x i.0.0 i.0.1 i.0.3, is_length i.0.4);
  }

  table_weight_sound : (ts : List Token)
      → Holds (table_weight_at text ty ts) (ParsedPart (ReadsTableWeight text) elem_height d ts)
  unfolding table_weight_at ReadsElem
  table_weight_sound ts =
      choose_holds (after_word_sound words.Weight ts) (some_holds _ _ (refl, omega arith))
      (λ a w. bind_holds (elem_sound text ty d h a)
      (λ e g. some_holds _ _ ((a, w, (g.later, g.label, g.reads)), g.low)))

  pub table_sound : (ts : List Token)
      → Holds (table_at text ty ts) (λ x. Low (ReadsTable text) table_height d x.0 ts x.1)
  unfolding table_at ReadsTable ReadsElem
  table_sound ts = bind_holds (name_sound text ts)
      (λ k at. bind_holds (argument_sound k.1)
      (λ a ga. bind_holds (all_sound table_index_item a.1) (λ i m. bind_holds (after_word_sound words.Of i.1) (λ o w.
      bind_holds (elem_sound text ty d h o)
      (λ e g. bind_holds (table_weight_sound e.1) (λ x gx. bind_holds (after_sign_sound signs.Semicolon x.1) (λ r c.
      let l = many_split (ReadsTableIndex text) elem_height d i.0 a.1 i.1 m in
      some_holds _ _ (
        (k.1, a.1, i.1, o, e.1, x.1, at, ga, l.0, w, (g.later, g.label, g.reads), gx.0, c),
        omega (arith, l.1, g.low, gx.1),
      ))))))))

  name_step_sound : (ts : List Token) → Holds (name_step text ts) (λ r. Holds r (λ x. ReadsNextName text x.0 ts x.1))
  unfolding name_step
  name_step_sound ts = choose_holds (after_sign_sound signs.Comma ts) (none_holds _)
      (λ a c. some_holds _ _ (weaker (name_sound text a) (λ n at. (a, c, at))))

  pub name_item : IsItem (name_step text) (ReadsNextName text)
  name_item = record {
    sound = λ ts r e. (name_step_sound ts).holds r e;
    shorter = λ x ts rest i. omega (arith, is_length i.1, name_length i.2);
  }

  names_sound : (ts : List Token) → Holds (names_at text ts) (λ x. ReadsNames text x.0 ts x.1)
  unfolding names_at names_later
  names_sound ts = bind_holds (name_sound text ts)
      (λ n at. bind_holds (all_sound name_item n.1) (λ y m. some_holds _ _ (n.1, at, m)))

  quantity_of_sound : (w : Word) → Holds (quantity_of w) (λ q. w ≡ quantity_word q)
  quantity_of_sound words.Some = some_holds _ _ refl
  quantity_of_sound words.Each = some_holds _ _ refl
  quantity_of_sound words.All = some_holds _ _ refl
  quantity_of_sound _ = none_holds _

  quantity_here_sound : (t : Token) (k : Kind) (ts : List Token) → t.kind ≡ k
      → Holds (quantity_here k ts) (λ r. IsWord (quantity_word r.0) (t ∷ ts) r.1)
  quantity_here_sound t (kinds.Word w) ts e =
      bind_holds (quantity_of_sound w)
      (λ q is. some_holds _ _
      (record {
        place = t.place;
        start = t.start;
        len = t.len;
        is = ap (λ (k : Kind). token k t.place t.start t.len ∷ ts) (e ∙ ap kinds.Word is);
      }))
  quantity_here_sound t _ ts e = none_holds _

  quantity_sound : (ts : List Token) → Holds (quantity_at ts) (λ r. IsWord (quantity_word r.0) ts r.1)
  unfolding quantity_at
  quantity_sound [] = none_holds _
  quantity_sound (t ∷ ts) = quantity_here_sound t t.kind ts refl

  quantifier_sound : (ts : List Token)
      → Holds (quantifier_at text ty ts) (λ x. Low (ReadsQuantifier text) quantifier_height d x.0 ts x.1)
  unfolding quantifier_at ReadsQuantifier
  quantifier_sound ts =
      bind_holds (names_sound ts)
      (λ n gn. bind_holds (after_sign_sound signs.Colon n.1)
      (λ a c. bind_holds (quantity_sound a)
      (λ q gq. bind_holds (h q.1) (λ t g. bind_holds (after_sign_sound signs.Semicolon t.1) (λ r z.
      some_holds _ _ ((n.1, a, q.1, t.1, gn, c, gq, g.reads, z), g.low))))))

  quantifier_step_sound : (ts : List Token) → Holds (quantifier_step text ty ts)
      (λ r. Holds r (λ x. Low (ReadsQuantifier text) quantifier_height d x.0 ts x.1))
  unfolding quantifier_step
  quantifier_step_sound ts =
      choose_holds (known (begins_quantifier text ts)) (none_holds _) (λ a e. some_holds _ _ (quantifier_sound ts))

  pub quantifier_item : IsItem (quantifier_step text ty) (Low (ReadsQuantifier text) quantifier_height d)
  quantifier_item = record {
    sound = λ ts r e. (quantifier_step_sound ts).holds r e;
    shorter = λ x ts rest i. one_quantifier_shorter text x ts rest i.0;
  }

  pub quantifiers_sound : (ts : List Token)
      → Holds (quantifiers_at text ty ts) (λ x. Low (ReadsQuantifiers text) (greatest quantifier_height) d x.0 ts x.1)
  unfolding quantifiers_at quantifiers_after
  quantifiers_sound ts = bind_holds (quantifier_sound ts) (λ q g. bind_holds (all_sound quantifier_item q.1) (λ y m.
      let l = many_split (ReadsQuantifier text) quantifier_height d y.0 q.1 y.1 m in
      some_holds _ _ ((q.1, g.0, l.0), omega (arith, g.1, l.1))))

  pub declared_sound : (ts : List Token)
      → Holds (declared_at text ty ts) (λ x. Low (ReadsDeclared text) param_heights d (params_of x.0) ts x.1)
  unfolding declared_at type_height ReadsType
  declared_sound ts = chosen_holds (after_sign_sound signs.CloseParen ts)
      (λ none. weaker (params_sound text ty d h ts) (λ x g. go x.0 x.1 g.reads g.low))
      (λ a c. some_holds _ _ (refl, omega arith))
    where
      go : (ps : List (Ident × Typ)) (rest : List Token) → ReadsParams text (params_of ps) ts rest
          → param_heights (params_of ps) ≤ d → Low (ReadsDeclared text) param_heights d (params_of ps) ts rest
      go [] rest r low = absurd r
      go (p ∷ ps) rest r low = (r, low)

-- What is read as a statement takes tokens; what is read as a step of a `for` is spelled so.
use Rattle.std.proofs.Common.{ℕ, zero, suc, ◌≤◌, ◌<◌, List, [], ◌∷◌, length, Option, Some, None, refl, ap, arith}
use Rattle.std.proofs.lemmas.Bool.{leb-true}
use Rattle.sz_lex.specs.declared.token.Token.{Token}
use Rattle.sz_lex.specs.declared.sign.Sign.{Sign}
use Rattle.sz_lex.specs.declared.sign.Sign.TheVariants as signs
use Rattle.sz_lex.specs.declared.word.Word.TheVariants as words
use Rattle.sz_tree.specs.Names.{Ident}
use Rattle.sz_tree.specs.Expressions.{Exp, height}
use Rattle.sz_tree.specs.Types.{Params, no_params, param}
use Rattle.sz_tree.specs.Statements.{StepForm, at_index, at_field, SimpleForm, assign, increment, decrement, call_of, FirstForm}
use Rattle.sz_tree.specs.Statements.{first_declare, first_define, first_simple, ElemForm, TableForm, QuantifierForm, Stm, Stms}
use Rattle.sz_tree.specs.Statements.{part_height, step_height, simple_height}
use Rattle.sz_tree.specs.Statements.{first_height, stm_height}
use Rattle.sz_tree.specs.Statements as forms
use Rattle.sz_parse_expr.specs.Tokens.{Spelling, IsSign, AtName}
use Rattle.sz_parse_expr.specs.Expressions.{Reads}
use Rattle.sz_parse_expr.specs.Types.{ReadsElem}
use Rattle.sz_parse.specs.Statements.{Perhaps, ReadsAfter, ReadsWeight, ReadsIndex, ReadsStep, ReadsSimple}
use Rattle.sz_parse.specs.Statements.{ReadsFirst, ReadsTableIndex, ReadsTableWeight, ReadsArgument, ReadsTable, ReadsNextName, ReadsNames}
use Rattle.sz_parse.specs.Statements.{ReadsQuantifier, ReadsQuantifiers, ReadsDeclared, ReadsCondition, ReadsStm, ReadsStms}
use Rattle.sz_parse_expr.specs.Reading.{Read}
use Rattle.sz_parse_expr.specs.ReadingExpressions.{Sub, expr_at}
use Rattle.sz_parse_expr.specs.ReadingTypes.{SubType, type_at}
use Rattle.sz_parse.specs.ReadingStatements.{unless_at, init_at, weight_at, index_at, index_step, path_step, assign_at, simple_after}
use Rattle.sz_parse.specs.ReadingStatements.{simple_at, first_after, first_at}
use Rattle.sz_parse_expr.proofs.Holds.{Holds, some_holds, none_holds, bind_holds, choose_holds, guard_holds, weaker}
use Rattle.sz_parse_expr.proofs.Items.{IsItem, Low, all_sound, many_split, many_fewer}
use Rattle.sz_parse_expr.proofs.TokenLemmas.{after_sign_sound, after_word_sound, name_sound, at_length, is_length, name_length}
use Rattle.sz_parse_expr.proofs.PostfixSound.{IsSound, shorter, args_shorter, call_sound}
use Rattle.sz_parse_expr.proofs.ExpressionSound.{expr_sound}
use Rattle.sz_parse_expr.proofs.TypeSound.{IsSoundType}
use Rattle.sz_parse_expr.proofs.TypeSound.{label_shorter, type_shorter, params_shorter, type_sound}

-- ---- statements take tokens

perhaps_shorter : {A : Type 0} (R : A → List Token → List Token → Type 0)
    → ((x : A) (ts rest : List Token) → R x ts rest → length rest ≤ length ts)
    → (o : Option A) (ts rest : List Token) → Perhaps R o ts rest → length rest ≤ length ts
perhaps_shorter R h None ts rest p = omega (arith, ap length p)
perhaps_shorter R h (Some x) ts rest p = h x ts rest p

module _ (text : Spelling) where
  pub label_elem_shorter : (e : ElemForm) (ts rest : List Token) → ReadsElem text e ts rest → length rest < length ts
  unfolding ReadsElem
  label_elem_shorter e ts rest i =
      omega (arith, label_shorter text e.name ts i.0 i.1, type_shorter text e.of i.0 rest i.2)

  path_shorter : (x : StepForm) (ts rest : List Token) → ReadsStep text x ts rest → length rest < length ts
  path_shorter (at_index e) ts rest i = omega (arith, is_length i.2, shorter text e i.0 i.1 i.3, is_length i.4)
  path_shorter (at_field n) ts rest i = omega (arith, is_length i.1, name_length i.2)

  simple_shorter : (s : SimpleForm) (ts rest : List Token) → ReadsSimple text s ts rest → length rest < length ts
  unfolding ReadsSimple
  simple_shorter (assign p e) ts rest i =
      omega (
        arith,
        name_length i.3,
        many_fewer (ReadsStep text) path_shorter p.steps i.0 i.1 i.4,
        is_length i.5,
        shorter text e _ _ i.6,
      )
  simple_shorter (increment n) ts rest i = omega (arith, name_length i.1, is_length i.2)
  simple_shorter (decrement n) ts rest i = omega (arith, name_length i.1, is_length i.2)
  simple_shorter (call_of n es) ts rest i =
      omega (arith, name_length i.3, is_length i.4, args_shorter text es _ _ i.5, is_length i.6)

  first_shorter : (f : FirstForm) (ts rest : List Token) → ReadsFirst text f ts rest → length rest ≤ length ts
  unfolding ReadsFirst
  first_shorter (first_declare n t e) ts rest i =
      omega (arith, name_length i.4, is_length i.5, type_shorter text t _ _ i.6, is_length i.7, shorter text e _ _ i.8)
  first_shorter (first_define n e) ts rest i = omega (arith, name_length i.2, is_length i.3, shorter text e _ _ i.4)
  first_shorter (first_simple s) ts rest i = omega (arith, simple_shorter s ts rest i)

  table_shorter : (t : TableForm) (ts rest : List Token) → ReadsTable text t ts rest → length rest < length ts
  unfolding ReadsTable
  table_shorter t ts rest i =
      omega (
        arith,
        name_length i.6,
        perhaps_shorter ReadsArgument
            (λ n ts rest a. omega (arith, is_length a.2, is_length a.3, is_length a.4)) t.argument i.0 i.1 i.7,
        many_fewer (ReadsTableIndex text) (λ e ts rest x.
            omega (arith, is_length x.2, label_elem_shorter e _ _ x.3, is_length x.4)) t.indexes i.1 i.2 i.8,
        is_length i.9,
        label_elem_shorter t.of _ _ i.10,
        perhaps_shorter (ReadsTableWeight text)
            (λ e ts rest x. omega (arith, is_length x.1, label_elem_shorter e _ _ x.2)) t.weight i.4 i.5 i.11,
        is_length i.12,
      )

  all_names_shorter : (ns : List Ident) (ts rest : List Token) → ReadsNames text ns ts rest → length rest < length ts
  all_names_shorter [] ts rest i = absurd i
  all_names_shorter (n ∷ ns) ts rest i =
      omega (
        arith,
        name_length i.1,
        many_fewer (ReadsNextName text) (λ n ts rest x. omega (arith, is_length x.1, name_length x.2)) ns i.0 rest i.2,
      )

  pub one_quantifier_shorter : (q : QuantifierForm) (ts rest : List Token) → ReadsQuantifier text q ts rest
      → length rest < length ts
  unfolding ReadsQuantifier
  one_quantifier_shorter q ts rest i =
      omega (
        arith,
        all_names_shorter q.names ts i.0 i.4,
        is_length i.5,
        is_length i.6,
        type_shorter text q.of i.2 i.3 i.7,
        is_length i.8,
      )

  quantifiers_shorter : (qs : List QuantifierForm) (ts rest : List Token) → ReadsQuantifiers text qs ts rest
      → length rest < length ts
  quantifiers_shorter [] ts rest i = absurd i
  quantifiers_shorter (q ∷ qs) ts rest i =
      omega (
        arith,
        one_quantifier_shorter q ts i.0 i.1,
        many_fewer (ReadsQuantifier text) one_quantifier_shorter qs i.0 rest i.2,
      )

  declared_shorter : (ps : Params) (ts rest : List Token) → ReadsDeclared text ps ts rest → length rest ≤ length ts
  declared_shorter no_params ts rest i = omega (arith, ap length i)
  declared_shorter (param n t ps) ts rest i = omega (arith, params_shorter text (param n t ps) ts rest i)

  expr_part_shorter : (e : Option Exp) (ts rest : List Token) → Perhaps (Reads text) e ts rest → length rest ≤ length ts
  expr_part_shorter e ts rest i =
      perhaps_shorter (Reads text) (λ x ts rest r. omega (arith, shorter text x ts rest r)) e ts rest i

  condition_shorter : (c : Exp) (ts rest : List Token) → ReadsCondition text c ts rest → length rest < length ts
  condition_shorter c ts rest i = omega (arith, is_length i.2, shorter text c _ _ i.3, is_length i.4)

  mutual
    unfolding ReadsStm

    pub stm_shorter : (s : Stm) (ts rest : List Token) → ReadsStm text s ts rest → length rest < length ts
    stm_shorter (forms.empty p) ts rest h = omega (arith, at_length h)
    stm_shorter (forms.block p ss) ts rest h = omega (arith, at_length h.2, stms_shorter ss _ _ h.3, is_length h.4)
    stm_shorter (forms.declare n t e) ts rest h =
        omega (
          arith,
          name_length h.4,
          is_length h.5,
          type_shorter text t _ _ h.6,
          perhaps_shorter (ReadsAfter text signs.Assign)
              (λ x ts rest r. omega (arith, is_length r.1, shorter text x _ _ r.2)) e _ _ h.7,
          is_length h.8,
        )
    stm_shorter (forms.define n e) ts rest h =
        omega (arith, name_length h.3, is_length h.4, shorter text e _ _ h.5, is_length h.6)
    stm_shorter (forms.static p n t e) ts rest h =
        omega (
          arith,
          at_length h.6,
          name_length h.7,
          is_length h.8,
          type_shorter text t _ _ h.9,
          is_length h.10,
          shorter text e _ _ h.11,
          is_length h.12,
        )
    stm_shorter (forms.typedef p n t) ts rest h =
        omega (arith, at_length h.4, name_length h.5, is_length h.6, type_shorter text t _ _ h.7, is_length h.8)
    stm_shorter (forms.table n t) ts rest h =
        omega (arith, name_length h.3, is_length h.4, is_length h.5, table_shorter t _ _ h.6)
    stm_shorter (forms.function n ps t ss) ts rest h =
        omega (
          arith,
          name_length h.10,
          is_length h.11,
          is_length h.12,
          is_length h.13,
          declared_shorter ps _ _ h.14,
          is_length h.15,
          is_length h.16,
          type_shorter text t _ _ h.17,
          is_length h.18,
          stms_shorter ss _ _ h.19,
          is_length h.20,
        )
    stm_shorter (forms.simple s) ts rest h = omega (arith, simple_shorter s _ _ h.1, is_length h.2)
    stm_shorter (forms.if_only p c s) ts rest h =
        omega (arith, at_length h.2, condition_shorter c _ _ h.3, stm_shorter s _ _ h.4)
    stm_shorter (forms.if_else p c s t) ts rest h =
        omega (
          arith,
          at_length h.4,
          condition_shorter c _ _ h.5,
          stm_shorter s _ _ h.6,
          is_length h.7,
          stm_shorter t _ _ h.8,
        )
    stm_shorter (forms.while p c s) ts rest h =
        omega (arith, at_length h.2, condition_shorter c _ _ h.3, stm_shorter s _ _ h.4)
    stm_shorter (forms.do_while p s c) ts rest h =
        omega (arith, at_length h.4, stm_shorter s _ _ h.5, is_length h.6, condition_shorter c _ _ h.7, is_length h.8)
    stm_shorter (forms.for_loop p f c t s) ts rest h =
        omega (
          arith,
          at_length h.8,
          is_length h.9,
          perhaps_shorter (ReadsFirst text) first_shorter f _ _ h.10,
          is_length h.11,
          expr_part_shorter c _ _ h.12,
          is_length h.13,
          perhaps_shorter (ReadsSimple text) (λ x ts rest r. omega (arith, simple_shorter x ts rest r)) t _ _ h.14,
          is_length h.15,
          stm_shorter s _ _ h.16,
        )
    stm_shorter (forms.break p) ts rest h = omega (arith, at_length h.1, is_length h.2)
    stm_shorter (forms.continue p) ts rest h = omega (arith, at_length h.1, is_length h.2)
    stm_shorter (forms.return p e) ts rest h = omega (arith, at_length h.2, expr_part_shorter e _ _ h.3, is_length h.4)
    stm_shorter (forms.emit p n es e w) ts rest h =
        omega (
          arith,
          at_length h.8,
          name_length h.9,
          many_fewer (ReadsIndex text)
              (λ x ts rest r. omega (arith, is_length r.2, shorter text x _ _ r.3, is_length r.4)) h.0 _ _ h.10,
          is_length h.11,
          shorter text e _ _ h.12,
          perhaps_shorter (ReadsWeight text)
              (λ x ts rest r. omega (arith, is_length r.1, shorter text x _ _ r.2)) w _ _ h.13,
          is_length h.14,
        )
    stm_shorter (forms.when p qs c s) ts rest h =
        omega (
          arith,
          at_length h.5,
          is_length h.6,
          quantifiers_shorter qs _ _ h.7,
          shorter text c _ _ h.8,
          is_length h.9,
          stm_shorter s _ _ h.10,
        )

    pub stms_shorter : (ss : Stms) (ts rest : List Token) → ReadsStms text ss ts rest → length rest ≤ length ts
    stms_shorter forms.no_stms ts rest h = omega (arith, ap length h)
    stms_shorter (forms.stm s ss) ts rest h = omega (arith, stm_shorter s _ _ h.1, stms_shorter ss _ _ h.2)

-- ---- what is known of the parts

abbrev pub ParsedSimple : Spelling → ℕ → List Token → SimpleForm × List Token → Type 0
ParsedSimple text d ts x = Low (ReadsSimple text) simple_height d x.0 ts x.1

abbrev pub ParsedFirst : Spelling → ℕ → List Token → FirstForm × List Token → Type 0
ParsedFirst text d ts x = Low (ReadsFirst text) first_height d x.0 ts x.1

abbrev pub ParsedStm : Spelling → ℕ → List Token → Stm × List Token → Type 0
ParsedStm text d ts x = Low (ReadsStm text) stm_height d x.0 ts x.1

abbrev pub IsSoundStm : Spelling → (List Token → Read Stm) → ℕ → Type 0
IsSoundStm text st d = (ts : List Token) → Holds (st ts) (ParsedStm text d ts)

-- a part that may be left out
abbrev pub ParsedPart : {A : Type 0} → (A → List Token → List Token → Type 0) → (A → ℕ) → ℕ → List Token
    → Option A × List Token → Type 0
ParsedPart R h d ts x = Low (Perhaps R) (part_height h) d x.0 ts x.1

pub unless_sound : {A : Type 0} (R : A → List Token → List Token → Type 0) (h : A → ℕ) (d : ℕ) (s : Sign)
    (read : List Token → Read A) (ts : List Token)
    → Holds (read ts) (λ x. Low R h d x.0 ts x.1) → Holds (unless_at s read ts) (ParsedPart R h d ts)
unfolding unless_at
unless_sound R h d s read ts k = choose_holds (after_sign_sound s ts) (bind_holds k (λ x g. some_holds _ _ g))
    (λ a c. some_holds _ _ (refl, omega arith))

abbrev IndexItem : Spelling → ℕ → Exp → List Token → List Token → Type 0
IndexItem text d = Low (ReadsIndex text) height d

abbrev StepItem : Spelling → ℕ → StepForm → List Token → List Token → Type 0
StepItem text d = Low (ReadsStep text) step_height d

-- an expression and a closing bracket
record ParsedIndex (text : Spelling) (d : ℕ) (ts : List Token) (x : Exp × List Token) : Type 0 where
  later : List Token
  reads : Reads text x.0 ts later
  closes : IsSign signs.CloseBracket later x.1
  low : height x.0 ≤ d

module _ (text : Spelling) (sub : Sub) (d : ℕ) (h : IsSound text sub d) where
  pub init_sound : (ts : List Token) → Holds (init_at sub ts) (ParsedPart (ReadsAfter text signs.Assign) height d ts)
  unfolding init_at
  init_sound ts = choose_holds (after_sign_sound signs.Assign ts) (some_holds _ _ (refl, omega arith))
      (λ a c. bind_holds (h 5 a) (λ x g. some_holds _ _ ((a, c, g.reads), g.low)))

  pub weight_sound : (ts : List Token) → Holds (weight_at sub ts) (ParsedPart (ReadsWeight text) height d ts)
  unfolding weight_at
  weight_sound ts = choose_holds (after_word_sound words.Weight ts) (some_holds _ _ (refl, omega arith))
      (λ a c. bind_holds (h 5 a) (λ x g. some_holds _ _ ((a, c, g.reads), g.low)))

  index_sound : (ts : List Token) → Holds (index_at sub ts) (ParsedIndex text d ts)
  unfolding index_at
  index_sound ts = bind_holds (h 5 ts)
      (λ x g. bind_holds (after_sign_sound signs.CloseBracket x.1)
      (λ r c. some_holds _ _ (record { later = x.1; reads = g.reads; closes = c; low = g.low })))

  index_step_sound : (ts : List Token) → Holds (index_step sub ts) (λ r. Holds r (λ x. IndexItem text d x.0 ts x.1))
  unfolding index_step
  index_step_sound ts =
      choose_holds (after_sign_sound signs.OpenBracket ts) (none_holds _)
      (λ a c. some_holds _ _ (weaker (index_sound a) (λ x g. ((a, g.later, c, g.reads, g.closes), g.low))))

  pub index_item : IsItem (index_step sub) (IndexItem text d)
  index_item = record {
    sound = λ ts r e. (index_step_sound ts).holds r e;
    shorter = λ x ts rest i. omega (arith, is_length i.0.2, shorter text x i.0.0 i.0.1 i.0.3, is_length i.0.4);
  }

  path_step_sound : (ts : List Token) → Holds (path_step text sub ts) (λ r. Holds r (λ x. StepItem text d x.0 ts x.1))
  unfolding path_step
  path_step_sound ts =
      choose_holds (after_sign_sound signs.OpenBracket ts)
      (choose_holds (after_sign_sound signs.Dot ts) (none_holds _)
      (λ a c. some_holds _ _ (bind_holds (name_sound text a) (λ n at. some_holds _ _ ((a, c, at), omega arith)))))
      (λ a c. some_holds _ _
      (bind_holds (index_sound a) (λ x g. some_holds _ _ ((a, g.later, c, g.reads, g.closes), g.low))))

  pub path_item : IsItem (path_step text sub) (StepItem text d)
  path_item = record {
    sound = λ ts r e. (path_step_sound ts).holds r e;
    shorter = λ x ts rest i. path_shorter text x ts rest i.0;
  }

  assign_sound : (ts0 : List Token) (n : Ident) (ts : List Token) → AtName text n ts0 ts
      → Holds (assign_at text sub n ts) (ParsedSimple text (suc d) ts0)
  unfolding assign_at ReadsSimple simple_height
  assign_sound ts0 n ts at = bind_holds (all_sound path_item ts)
      (λ y m. bind_holds (after_sign_sound signs.Assign y.1) (λ a c. bind_holds (h 5 a) (λ x g.
      let l = many_split (ReadsStep text) step_height d y.0 ts y.1 m in
      some_holds _ _ ((ts, y.1, a, at, l.0, c, g.reads), omega (arith, l.1, g.low)))))

  pub simple_sound : (ts0 : List Token) (n : Ident) (ts : List Token) → AtName text n ts0 ts
      → Holds (simple_after text sub d n ts) (ParsedSimple text (suc d) ts0)
  unfolding simple_after ReadsSimple simple_height
  simple_sound ts0 n ts at =
      choose_holds (after_sign_sound signs.Increment ts)
      (choose_holds (after_sign_sound signs.Decrement ts) (choose_holds (after_sign_sound signs.OpenParen ts)
      (assign_sound ts0 n ts at)
      (λ a o. guard_holds (λ t. bind_holds (call_sound text sub d h a) (λ y m.
      let some : 1 ≤ d = leb-true _ _ t in
      some_holds _ _ ((ts, a, m.later, at, o, m.reads, m.closes), omega (arith, m.low))))))
      (λ r c. guard_holds (λ t. let some : 2 ≤ d = leb-true _ _ t in some_holds _ _ ((ts, at, c), omega arith))))
      (λ r c. guard_holds (λ t. let some : 2 ≤ d = leb-true _ _ t in some_holds _ _ ((ts, at, c), omega arith)))

pub simple_at_sound : (text : Spelling) (d : ℕ) (ts : List Token) → Holds (simple_at text d ts) (ParsedSimple text d ts)
unfolding simple_at
simple_at_sound text zero ts = none_holds _
simple_at_sound text (suc d) ts =
    bind_holds (name_sound text ts) (λ n at. simple_sound text (expr_at text d) d (expr_sound text d) ts n.0 n.1 at)

module _ (text : Spelling) (sub : Sub) (ty : SubType) (d : ℕ) (h : IsSound text sub d)
    (hty : IsSoundType text ty d) where
  first_sound : (ts0 : List Token) (n : Ident) (ts : List Token) → AtName text n ts0 ts
      → Holds (first_after text sub ty d n ts) (ParsedFirst text (suc d) ts0)
  unfolding first_after ReadsFirst first_height
  first_sound ts0 n ts at =
      choose_holds (after_sign_sound signs.Colon ts) (choose_holds (after_sign_sound signs.Define ts)
      (bind_holds (simple_sound text sub d h ts0 n ts at) (λ s g. some_holds _ _ g))
      (λ a c. bind_holds (h 5 a) (λ x g. some_holds _ _ ((ts, a, at, c, g.reads), omega (arith, g.low)))))
      (λ a c. bind_holds (hty a)
      (λ t gt. bind_holds (after_sign_sound signs.Assign t.1) (λ b e. bind_holds (h 5 b) (λ x g.
      some_holds _ _ ((ts, a, t.1, b, at, c, gt.reads, e, g.reads), omega (arith, gt.low, g.low))))))

pub first_at_sound : (text : Spelling) (d : ℕ) (ts : List Token) → Holds (first_at text d ts) (ParsedFirst text d ts)
unfolding first_at
first_at_sound text zero ts = none_holds _
first_at_sound text (suc d) ts =
    bind_holds (name_sound text ts) (λ n at.
    first_sound text (expr_at text d) (type_at text d) d (expr_sound text d) (type_sound text d) ts n.0 n.1 at)

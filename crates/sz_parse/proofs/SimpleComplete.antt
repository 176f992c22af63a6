-- Parts that may be left out, and steps of a `for`, are read as they are spelled.
use Rattle.std.proofs.Common.{◌≡◌, ℕ, zero, suc, ◌≤◌, ◌<◌, false, List, [], ◌∷◌, Option, Some, None, refl, ap, ◌∙◌, arith}
use denote.Enum.Bare.{sameb, false_same}
use Rattle.std.proofs.lemmas.Bool.{le-leb}
use Rattle.sz_lex.specs.declared.token.Token.{Token}
use Rattle.sz_lex.specs.declared.token.Kind.{Kind}
use Rattle.sz_lex.specs.declared.token.Kind.TheVariants as kinds
use Rattle.sz_lex.specs.declared.sign.Sign.{Sign}
use Rattle.sz_lex.specs.declared.sign.Sign.TheVariants as signs
use Rattle.sz_lex.specs.declared.word.Word.{Word}
use Rattle.sz_lex.specs.declared.word.Word.TheVariants as words
use Rattle.sz_lex.specs.contracts.sign.Sign.{the_type as sign_type}
use Rattle.sz_lex.specs.contracts.word.Word.{the_type as word_type}
use Rattle.sz_tree.specs.Names.{Ident}
use Rattle.sz_tree.specs.Expressions.{Exp, height}
use Rattle.sz_tree.specs.Statements.{StepForm, at_index, at_field, SimpleForm, assign, increment, decrement, call_of, FirstForm}
use Rattle.sz_tree.specs.Statements.{first_declare, first_define, first_simple}
use Rattle.sz_tree.specs.Statements.{part_height, step_height, simple_height}
use Rattle.sz_tree.specs.Statements.{first_height}
use Rattle.sz_parse_expr.specs.Tokens.{Spelling, token, IsSign, IsWord, AtName, Many}
use Rattle.sz_parse_expr.specs.Expressions.{Reads}
use Rattle.sz_parse.specs.Statements.{Perhaps, NotElse, ReadsAfter, ReadsWeight, ReadsIndex, ReadsStep, ReadsSimple}
use Rattle.sz_parse.specs.Statements.{ReadsFirst}
use Rattle.sz_parse_expr.specs.Reading.{Read, after_sign, word_here, after_word}
use Rattle.sz_parse_expr.specs.ReadingExpressions.{Sub, expr_at}
use Rattle.sz_parse_expr.specs.ReadingTypes.{SubType, type_at}
use Rattle.sz_parse.specs.ReadingStatements.{init_at, weight_at, index_at, index_step, path_step, assign_at, simple_after}
use Rattle.sz_parse.specs.ReadingStatements.{simple_at, first_after, first_at}
use Rattle.sz_parse_expr.proofs.Steps.{bind_step, choose_some, choose_none, guard_step}
use Rattle.sz_parse_expr.proofs.Items.{IsFound, Low, all_complete, many_join}
use Rattle.sz_parse_expr.proofs.TokenLemmas.{after_sign_is, other_sign, after_word_is, name_is}
use Rattle.sz_parse_expr.proofs.PostfixSound.{IsSound}
use Rattle.sz_parse_expr.proofs.ExpressionSound.{expr_sound}
use Rattle.sz_parse_expr.proofs.OperatorLemmas.{grip}
use Rattle.sz_parse_expr.proofs.PostfixComplete.{IsComplete, ends_at, whole, call_complete}
use Rattle.sz_parse_expr.proofs.ExpressionComplete.{expr_complete}
use Rattle.sz_parse_expr.proofs.TypeComplete.{IsCompleteType, type_complete}
use Rattle.sz_parse.proofs.SimpleSound.{path_item}

-- ---- one token

pub word_at_sign : (w : Word) (s : Sign) (ts rest : List Token) → IsSign s ts rest → after_word w ts ≡ None
unfolding after_word
word_at_sign w s ts rest h = rw h.is refl

pub sign_at_word : (s : Sign) (w : Word) (ts rest : List Token) → IsWord w ts rest → after_sign s ts ≡ None
unfolding after_sign
sign_at_word s w ts rest h = rw h.is refl

pub sign_at_name : (text : Spelling) (s : Sign) (n : Ident) (ts rest : List Token) → AtName text n ts rest
    → after_sign s ts ≡ None
unfolding after_sign
sign_at_name text s n ts rest h = rw h.is refl

ends_at_word : (w : Word) (ts rest : List Token) → IsWord w ts rest → 5 < grip ts
ends_at_word w ts rest h = rw h.is (omega arith)

no_else_here : (t : Token) (k : Kind) (ts : List Token) → t.kind ≡ k → NotElse (t ∷ ts)
    → word_here words.Else k ts ≡ None
no_else_here t (kinds.Word w) ts e h =
    rw (false_same word_type tt w words.Else
    (λ q. h ts (record {
      place = t.place;
      start = t.start;
      len = t.len;
      is = ap (λ (k : Kind). token k t.place t.start t.len ∷ ts)
          (e ∙ ap kinds.Word q);
    }))) refl
no_else_here t (kinds.Sign s) ts e h = refl
no_else_here t kinds.Name ts e h = refl
no_else_here t (kinds.Number n) ts e h = refl
no_else_here t (kinds.Character c) ts e h = refl
no_else_here t kinds.Str ts e h = refl
no_else_here t kinds.Bytes ts e h = refl

pub no_else : (ts : List Token) → NotElse ts → after_word words.Else ts ≡ None
unfolding after_word
no_else [] h = refl
no_else (t ∷ ts) h = no_else_here t t.kind ts refl h

-- ---- parts that may be left out

module _ (text : Spelling) (sub : Sub) (d : ℕ) (s : IsSound text sub d) (h : IsComplete text sub d) where
  pub init_complete : (e : Option Exp) (ts rest after : List Token) → Perhaps (ReadsAfter text signs.Assign) e ts rest
      → part_height height e ≤ d → IsSign signs.Semicolon rest after → init_at sub ts ≡ Some (e, rest)
  unfolding init_at
  init_complete None ts rest after p low c =
      rw p (choose_none _ _ _ _ (other_sign signs.Assign signs.Semicolon rest after c refl) refl)
  init_complete (Some e) ts rest after p low c =
      choose_some _ _ _ _ _ (after_sign_is signs.Assign ts p.0 p.1)
      (bind_step _ _ _ _ (whole text sub d s h e p.0 rest p.2 low (ends_at signs.Semicolon rest after refl c)) refl)

  pub weight_complete : (e : Option Exp) (ts rest after : List Token) → Perhaps (ReadsWeight text) e ts rest
      → part_height height e ≤ d → IsSign signs.Semicolon rest after
      → (weight_at sub ts ≡ Some (e, rest)) × (5 < grip ts)
  unfolding weight_at
  weight_complete None ts rest after p low c = (
    rw p (choose_none _ _ _ _ (word_at_sign words.Weight signs.Semicolon rest after c) refl),
    rw p (ends_at signs.Semicolon rest after refl c),
  )
  weight_complete (Some e) ts rest after p low c = (
    choose_some _ _ _ _ _ (after_word_is words.Weight ts p.0 p.1)
        (bind_step _ _ _ _ (whole text sub d s h e p.0 rest p.2 low (ends_at signs.Semicolon rest after refl c)) refl),
    ends_at_word words.Weight ts p.0 p.1,
  )

  index_complete : (e : Exp) (a b rest : List Token) → Reads text e a b → height e ≤ d
      → IsSign signs.CloseBracket b rest → index_at sub a ≡ Some (e, rest)
  unfolding index_at
  index_complete e a b rest re low c =
      bind_step _ _ _ _ (whole text sub d s h e a b re low (ends_at signs.CloseBracket b rest refl c))
      (bind_step _ _ _ _ (after_sign_is signs.CloseBracket b rest c) refl)

  pub index_found : IsFound (index_step sub) (Low (ReadsIndex text) height d) (λ ts. Unit {0})
  unfolding index_step
  index_found = record {
    found = λ x ts rest i g. choose_some _ _ _ _ _ (after_sign_is signs.OpenBracket ts i.0.0 i.0.2)
        (ap (λ (r : Read Exp). Some r) (index_complete x i.0.0 i.0.1 rest i.0.3 i.1 i.0.4));
    begins = λ x ts rest i. tt;
  }

  step_found : (x : StepForm) (ts rest : List Token) → Low (ReadsStep text) step_height d x ts rest
      → path_step text sub ts ≡ Some (Some (x, rest))
  unfolding path_step
  step_found (at_index e) ts rest i =
      choose_some _ _ _ _ _ (after_sign_is signs.OpenBracket ts i.0.0 i.0.2)
      (ap (λ (r : Read StepForm). Some r) (bind_step _ _ _ _ (index_complete e i.0.0 i.0.1 rest i.0.3 i.1 i.0.4) refl))
  step_found (at_field n) ts rest i =
      choose_none _ _ _ _ (other_sign signs.OpenBracket signs.Dot ts i.0.0 i.0.1 refl)
      (choose_some _ _ _ _ _ (after_sign_is signs.Dot ts i.0.0 i.0.1)
      (ap (λ (r : Read StepForm). Some r) (bind_step _ _ _ _ (name_is text n i.0.0 rest i.0.2) refl)))

  path_found : IsFound (path_step text sub) (Low (ReadsStep text) step_height d) (λ ts. Unit {0})
  path_found = record { found = λ x ts rest i g. step_found x ts rest i; begins = λ x ts rest i. tt }

  no_step : (r : Sign) (ts rest : List Token) → IsSign r ts rest → sameb sign_type r signs.OpenBracket ≡ false
      → sameb sign_type r signs.Dot ≡ false → path_step text sub ts ≡ None
  unfolding path_step
  no_step r ts rest c e f = choose_none _ _ _ _ (other_sign signs.OpenBracket r ts rest c e)
      (choose_none _ _ _ _ (other_sign signs.Dot r ts rest c f) refl)

  -- what stands after the name of an assignment is no sign of another statement
  path_other : (z : Sign) (xs : List StepForm) (a b c : List Token) → Many (ReadsStep text) xs a b
      → IsSign signs.Assign b c → sameb sign_type signs.OpenBracket z ≡ false → sameb sign_type signs.Dot z ≡ false
      → sameb sign_type signs.Assign z ≡ false → after_sign z a ≡ None
  unfolding Many
  path_other z [] a b c m e p q r = rw m (other_sign z signs.Assign b c e r)
  path_other z (at_index x ∷ xs) a b c m e p q r = other_sign z signs.OpenBracket a _ m.1.2 p
  path_other z (at_field x ∷ xs) a b c m e p q r = other_sign z signs.Dot a _ m.1.1 q

  -- after its name, before what ends an expression
  pub simple_complete : (x : SimpleForm) (ts rest : List Token) → ReadsSimple text x ts rest
      → simple_height x ≤ suc d → 5 < grip rest → (n : Ident) × (a : List Token) × AtName text n ts a
      × (simple_after text sub d n a ≡ Some (x, rest)) × (after_sign signs.Colon a ≡ None)
      × (after_sign signs.Define a ≡ None)
  unfolding simple_after assign_at ReadsSimple simple_height
  simple_complete (assign p e) ts rest re low g =
      let m = all_complete (path_item text sub d s) path_found p.steps re.0 re.1
      (many_join (ReadsStep text) step_height d p.steps re.0 re.1 re.4 (omega arith)) tt
      (no_step signs.Assign re.1 re.2 re.5 refl refl) in (
        p.name,
        re.0,
        re.3,
        choose_none _ _ _ _ (path_other signs.Increment p.steps re.0 re.1 re.2 re.4 re.5 refl refl refl)
            (choose_none _ _ _ _ (path_other signs.Decrement p.steps re.0 re.1 re.2 re.4 re.5 refl refl refl)
            (choose_none _ _ _ _ (path_other signs.OpenParen p.steps re.0 re.1 re.2 re.4 re.5 refl refl refl)
            (bind_step _ _ _ _ m (bind_step _ _ _ _ (after_sign_is signs.Assign re.1 re.2 re.5)
            (bind_step _ _ _ _ (whole text sub d s h e re.2 rest re.6 (omega arith) g) refl))))),
        path_other signs.Colon p.steps re.0 re.1 re.2 re.4 re.5 refl refl refl,
        path_other signs.Define p.steps re.0 re.1 re.2 re.4 re.5 refl refl refl,
      )
  simple_complete (increment n) ts rest re low g =
      let some : 2 ≤ d = omega arith in (
        n,
        re.0,
        re.1,
        choose_some _ _ _ _ _ (after_sign_is signs.Increment re.0 rest re.2) (guard_step _ _ _ (le-leb _ _ some) refl),
        other_sign signs.Colon signs.Increment re.0 rest re.2 refl,
        other_sign signs.Define signs.Increment re.0 rest re.2 refl,
      )
  simple_complete (decrement n) ts rest re low g =
      let some : 2 ≤ d = omega arith in (
        n,
        re.0,
        re.1,
        choose_none _ _ _ _ (other_sign signs.Increment signs.Decrement re.0 rest re.2 refl)
            (choose_some _ _ _ _ _ (after_sign_is signs.Decrement re.0 rest re.2)
            (guard_step _ _ _ (le-leb _ _ some) refl)),
        other_sign signs.Colon signs.Decrement re.0 rest re.2 refl,
        other_sign signs.Define signs.Decrement re.0 rest re.2 refl,
      )
  simple_complete (call_of n es) ts rest re low g =
      let some : 1 ≤ d = omega arith in (
        n,
        re.0,
        re.3,
        choose_none _ _ _ _ (other_sign signs.Increment signs.OpenParen re.0 re.1 re.4 refl)
            (choose_none _ _ _ _ (other_sign signs.Decrement signs.OpenParen re.0 re.1 re.4 refl)
            (choose_some _ _ _ _ _ (after_sign_is signs.OpenParen re.0 re.1 re.4)
            (guard_step _ _ _ (le-leb _ _ some)
            (bind_step _ _ _ _ (call_complete text sub d s h es re.1 re.2 rest re.5 (omega arith) re.6) refl)))),
        other_sign signs.Colon signs.OpenParen re.0 re.1 re.4 refl,
        other_sign signs.Define signs.OpenParen re.0 re.1 re.4 refl,
      )

pub simple_positive : (x : SimpleForm) → 0 < simple_height x
unfolding simple_height
simple_positive (assign p e) = omega arith
simple_positive (increment n) = omega arith
simple_positive (decrement n) = omega arith
simple_positive (call_of n es) = omega arith

pub simple_at_complete : (text : Spelling) (d : ℕ) (x : SimpleForm) (ts rest : List Token)
    → ReadsSimple text x ts rest → simple_height x ≤ d → 5 < grip rest → simple_at text d ts ≡ Some (x, rest)
unfolding simple_at
simple_at_complete text zero x ts rest re low g = absurd (omega (arith, simple_positive x))
simple_at_complete text (suc d) x ts rest re low g =
    let m = simple_complete text (expr_at text d) d (expr_sound text d) (expr_complete text d) x ts rest re low g in
    bind_step _ _ _ _ (name_is text m.0 ts m.1 m.2) m.3

first_complete : (text : Spelling) (sub : Sub) (ty : SubType) (d : ℕ) → IsSound text sub d → IsComplete text sub d
    → IsCompleteType text ty d → (x : FirstForm) (ts rest : List Token) → ReadsFirst text x ts rest
    → first_height x ≤ suc d → 5 < grip rest
    → (n : Ident) × (a : List Token) × AtName text n ts a × (first_after text sub ty d n a ≡ Some (x, rest))
unfolding first_after ReadsFirst first_height
first_complete text sub ty d s h ht (first_declare n t e) ts rest re low g = (
  n,
  re.0,
  re.4,
  choose_some _ _ _ _ _ (after_sign_is signs.Colon re.0 re.1 re.5)
      (bind_step _ _ _ _ (ht t re.1 re.2 re.6 (omega arith))
      (bind_step _ _ _ _ (after_sign_is signs.Assign re.2 re.3 re.7)
      (bind_step _ _ _ _ (whole text sub d s h e re.3 rest re.8 (omega arith) g) refl))),
)
first_complete text sub ty d s h ht (first_define n e) ts rest re low g = (
  n,
  re.0,
  re.2,
  choose_none _ _ _ _ (other_sign signs.Colon signs.Define re.0 re.1 re.3 refl)
      (choose_some _ _ _ _ _ (after_sign_is signs.Define re.0 re.1 re.3)
      (bind_step _ _ _ _ (whole text sub d s h e re.1 rest re.4 (omega arith) g) refl)),
)
first_complete text sub ty d s h ht (first_simple x) ts rest re low g =
    let m = simple_complete text sub d s h x ts rest re low g in
    (m.0, m.1, m.2, choose_none _ _ _ _ m.4 (choose_none _ _ _ _ m.5 (bind_step _ _ _ _ m.3 refl)))

first_positive : (x : FirstForm) → 0 < first_height x
unfolding first_height
first_positive (first_declare n t e) = omega arith
first_positive (first_define n e) = omega arith
first_positive (first_simple s) = simple_positive s

pub first_at_complete : (text : Spelling) (d : ℕ) (x : FirstForm) (ts rest : List Token) → ReadsFirst text x ts rest
    → first_height x ≤ d → 5 < grip rest → first_at text d ts ≡ Some (x, rest)
unfolding first_at
first_at_complete text zero x ts rest re low g = absurd (omega (arith, first_positive x))
first_at_complete text (suc d) x ts rest re low g =
    let m = first_complete text (expr_at text d) (type_at text d) d (expr_sound text d) (expr_complete text d)
    (type_complete text d) x ts rest re low g in
    bind_step _ _ _ _ (name_is text m.0 ts m.1 m.2) m.3

-- both begin with a name
pub simple_no_sign : (text : Spelling) (z : Sign) (x : SimpleForm) (ts rest : List Token) → ReadsSimple text x ts rest
    → after_sign z ts ≡ None
unfolding ReadsSimple
simple_no_sign text z (assign p e) ts rest re = sign_at_name text z p.name ts _ re.3
simple_no_sign text z (increment n) ts rest re = sign_at_name text z n ts _ re.1
simple_no_sign text z (decrement n) ts rest re = sign_at_name text z n ts _ re.1
simple_no_sign text z (call_of n es) ts rest re = sign_at_name text z n ts _ re.3

pub first_no_sign : (text : Spelling) (z : Sign) (x : FirstForm) (ts rest : List Token) → ReadsFirst text x ts rest
    → after_sign z ts ≡ None
unfolding ReadsFirst
first_no_sign text z (first_declare n t e) ts rest re = sign_at_name text z n ts _ re.4
first_no_sign text z (first_define n e) ts rest re = sign_at_name text z n ts _ re.2
first_no_sign text z (first_simple s) ts rest re = simple_no_sign text z s ts rest re

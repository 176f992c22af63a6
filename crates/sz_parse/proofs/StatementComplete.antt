-- A statement is read as it is spelled.
use Rattle.std.proofs.Common.{◌≡◌, ℕ, zero, suc, ◌≤◌, ◌<◌, true, List, [], ◌∷◌, Option, Some, None, refl, sym, ap, ◌∙◌, arith}
use Rattle.sz_lex.specs.declared.token.Token.{Token}
use Rattle.sz_lex.specs.declared.sign.Sign.{Sign}
use Rattle.sz_lex.specs.declared.sign.Sign.TheVariants as signs
use Rattle.sz_lex.specs.declared.word.Word.TheVariants as words
use Rattle.sz_tree.specs.Names.{Ident}
use Rattle.sz_tree.specs.Expressions.{Exp, Exps, height, heights}
use Rattle.sz_tree.specs.Types.{Params}
use Rattle.sz_tree.specs.Statements.{SimpleForm, assign, increment, decrement, call_of, FirstForm}
use Rattle.sz_tree.specs.Statements.{Stm, Stms, stms_of}
use Rattle.sz_tree.specs.Statements.{part_height, greatest, simple_height}
use Rattle.sz_tree.specs.Statements.{first_height, stm_height, stm_heights}
use Rattle.sz_tree.specs.Statements as forms
use Rattle.sz_parse_expr.specs.Tokens.{Spelling, IsSign, AtName, Many}
use Rattle.sz_parse_expr.specs.Expressions.{Reads}
use Rattle.sz_parse.specs.Statements.{Perhaps, ReadsIndex, ReadsSimple}
use Rattle.sz_parse.specs.Statements.{ReadsFirst}
use Rattle.sz_parse.specs.Statements.{ReadsCondition, ReadsStm, ReadsStms}
use Rattle.sz_parse_expr.specs.Reading.{Read, sign_here, after_sign}
use Rattle.sz_parse_expr.specs.ReadingExpressions.{condition_at}
use Rattle.sz_parse.specs.ReadingStatements.{unless_at, index_step}
use Rattle.sz_parse.specs.ReadingStatements.{Readers, begins_stm}
use Rattle.sz_parse.specs.ReadingStatements.{stm_step, body_at, block_at, declare_at, function_at, table_stm_at, colon_at}
use Rattle.sz_parse.specs.ReadingStatements.{define_at, simple_stm_at, named_stm_at, static_at, typedef_at, if_at, while_at, do_at, for_at}
use Rattle.sz_parse.specs.ReadingStatements.{break_at, continue_at, return_at, emit_at, when_at, step_at, stm_at}
use Rattle.sz_parse_expr.proofs.Steps.{bind_step, choose_some, choose_none}
use Rattle.sz_parse_expr.proofs.Items.{IsFound, Low, all_complete, many_join}
use Rattle.sz_parse_expr.proofs.TokenLemmas.{after_sign_is, other_sign, after_word_is, other_word, name_is}
use Rattle.sz_parse_expr.proofs.ExpressionSound.{expr_sound}
use Rattle.sz_parse_expr.proofs.OperatorLemmas.{grip, sign_grip, starts, reads_starts, no_start}
use Rattle.sz_parse_expr.proofs.PostfixComplete.{IsComplete, ends_at, whole}
use Rattle.sz_parse_expr.proofs.PostfixComplete.{condition_complete}
use Rattle.sz_parse_expr.proofs.ExpressionComplete.{expr_complete}
use Rattle.sz_parse_expr.proofs.TypeSound.{type_sound}
use Rattle.sz_parse_expr.proofs.TypeComplete.{IsCompleteType, label_is, type_complete}
use Rattle.sz_parse.proofs.SimpleSound.{index_item}
use Rattle.sz_parse.proofs.StatementSound.{AreSound, stm_item}
use Rattle.sz_parse.proofs.SimpleSound.{simple_at_sound, first_at_sound}
use Rattle.sz_parse.proofs.StatementSound.{exps_heights, stm_sound}
use Rattle.sz_parse.proofs.SimpleComplete.{no_else, init_complete, weight_complete, index_found, simple_complete, simple_positive}
use Rattle.sz_parse.proofs.SimpleComplete.{simple_at_complete, first_at_complete, simple_no_sign, first_no_sign}
use Rattle.sz_parse.proofs.TableComplete.{no_table, no_quantifier, table_complete, quantifiers_complete, declared_complete}

-- ---- statements

abbrev pub IsCompleteStm : Spelling → (List Token → Read Stm) → ℕ → Type 0
IsCompleteStm text st d = (x : Stm) (ts rest : List Token) → ReadsStm text x ts rest → stm_height x ≤ d
    → st ts ≡ Some (x, rest)

-- what is known of the readers of the parts, forwards
pub record AreComplete (text : Spelling) (r : Readers) (d : ℕ) : Type 0 where
  pub expr : IsComplete text r.expr d
  pub type : IsCompleteType text r.type d
  pub simple : (x : SimpleForm) (ts rest : List Token) → ReadsSimple text x ts rest → simple_height x ≤ d
      → 5 < grip rest → r.simple ts ≡ Some (x, rest)
  pub first : (x : FirstForm) (ts rest : List Token) → ReadsFirst text x ts rest → first_height x ≤ d → 5 < grip rest
      → r.first ts ≡ Some (x, rest)
  pub stm : IsCompleteStm text r.stm d

-- a statement begins with a token that is no closing brace
simple_begins : (text : Spelling) (x : SimpleForm) (ts rest : List Token) → ReadsSimple text x ts rest
    → (t : Token) × (more : List Token) × (ts ≡ t ∷ more) × (sign_here signs.CloseBrace t.kind more ≡ None)
unfolding ReadsSimple
simple_begins text (assign p e) ts rest re = (_, _, re.3.is, refl)
simple_begins text (increment n) ts rest re = (_, _, re.1.is, refl)
simple_begins text (decrement n) ts rest re = (_, _, re.1.is, refl)
simple_begins text (call_of n es) ts rest re = (_, _, re.3.is, refl)

stm_begins : (text : Spelling) (x : Stm) (ts rest : List Token) → ReadsStm text x ts rest
    → (t : Token) × (more : List Token) × (ts ≡ t ∷ more) × (sign_here signs.CloseBrace t.kind more ≡ None)
unfolding ReadsStm
stm_begins text (forms.empty p) ts rest re = (_, _, re.is, refl)
stm_begins text (forms.block p ss) ts rest re = (_, _, re.2.is, refl)
stm_begins text (forms.declare n t e) ts rest re = (_, _, re.4.is, refl)
stm_begins text (forms.define n e) ts rest re = (_, _, re.3.is, refl)
stm_begins text (forms.static p n t e) ts rest re = (_, _, re.6.is, refl)
stm_begins text (forms.typedef p n t) ts rest re = (_, _, re.4.is, refl)
stm_begins text (forms.table n t) ts rest re = (_, _, re.3.is, refl)
stm_begins text (forms.function n ps t ss) ts rest re = (_, _, re.10.is, refl)
stm_begins text (forms.simple s) ts rest re = simple_begins text s ts _ re.1
stm_begins text (forms.if_only p c s) ts rest re = (_, _, re.2.is, refl)
stm_begins text (forms.if_else p c s t) ts rest re = (_, _, re.4.is, refl)
stm_begins text (forms.while p c s) ts rest re = (_, _, re.2.is, refl)
stm_begins text (forms.do_while p s c) ts rest re = (_, _, re.4.is, refl)
stm_begins text (forms.for_loop p f c t s) ts rest re = (_, _, re.8.is, refl)
stm_begins text (forms.break p) ts rest re = (_, _, re.1.is, refl)
stm_begins text (forms.continue p) ts rest re = (_, _, re.1.is, refl)
stm_begins text (forms.return p e) ts rest re = (_, _, re.2.is, refl)
stm_begins text (forms.emit p n es e w) ts rest re = (_, _, re.8.is, refl)
stm_begins text (forms.when p qs c s) ts rest re = (_, _, re.5.is, refl)

abbrev stm_list : Stms → List Stm
stm_list forms.no_stms = []
stm_list (forms.stm s ss) = s ∷ stm_list ss

stms_list : (ss : Stms) → stms_of (stm_list ss) ≡ ss
stms_list forms.no_stms = refl
stms_list (forms.stm s ss) = ap (forms.stm s) (stms_list ss)

module _ (text : Spelling) (r : Readers) (d : ℕ) (s : AreSound text r d) (h : AreComplete text r d) where
  found_stm : (x : Stm) (ts rest : List Token) → Low (ReadsStm text) stm_height d x ts rest
      → stm_step r.stm ts ≡ Some (Some (x, rest))
  unfolding stm_step begins_stm after_sign
  found_stm x ts rest i =
      let b = stm_begins text x ts rest i.0 in
      let is : r.stm (b.0 ∷ b.1) ≡ Some (x, rest) = ap r.stm (sym b.2) ∙ h.stm x ts rest i.0 i.1 in
      rw b.2 (choose_some _ _ _ _ _ (choose_none _ _ _ _ b.3 refl) (ap (λ (o : Read Stm). Some o) is))

  stm_found : IsFound (stm_step r.stm) (Low (ReadsStm text) stm_height d) (λ ts. Unit {0})
  stm_found = record { found = λ x ts rest i g. found_stm x ts rest i; begins = λ x ts rest i. tt }

  no_stm : (ts rest : List Token) → IsSign signs.CloseBrace ts rest → stm_step r.stm ts ≡ None
  unfolding stm_step begins_stm
  no_stm ts rest c = rw c.is
      (choose_none _ _ _ _
      (choose_some _ _ _ _ _ (after_sign_is signs.CloseBrace _ rest
      (record { place = c.place; start = c.start; len = c.len; is = refl })) refl) refl)

  stm_items : (ss : Stms) (ts rest : List Token) → ReadsStms text ss ts rest → stm_heights ss ≤ d
      → Many (Low (ReadsStm text) stm_height d) (stm_list ss) ts rest
  unfolding Many ReadsStm stm_height
  stm_items forms.no_stms ts rest re low = re
  stm_items (forms.stm x ss) ts rest re low = (re.0, (re.1, omega arith), stm_items ss re.0 rest re.2 (omega arith))

  body_complete : (ss : Stms) (ts a rest : List Token) → ReadsStms text ss ts a → stm_heights ss ≤ d
      → IsSign signs.CloseBrace a rest → body_at r.stm ts ≡ Some (stm_list ss, rest)
  unfolding body_at
  body_complete ss ts a rest re low c =
      bind_step _ _ _ _ (all_complete (stm_item text r d s) stm_found (stm_list ss) ts a (stm_items ss ts a re low) tt
      (no_stm a rest c)) (bind_step _ _ _ _ (after_sign_is signs.CloseBrace a rest c) refl)

  expr_before : (z : Sign) (e : Exp) (ts a rest : List Token) → Reads text e ts a → height e ≤ d → sign_grip z ≡ 6
      → IsSign z a rest → r.expr 5 ts ≡ Some (e, a)
  expr_before z e ts a rest re low six c = whole text r.expr d s.expr h.expr e ts a re low (ends_at z a rest six c)

  condition_is : (c : Exp) (ts rest : List Token) → ReadsCondition text c ts rest → height c ≤ d
      → condition_at r.expr ts ≡ Some (c, rest)
  condition_is c ts rest re low = condition_complete text r.expr d s.expr h.expr c ts re.0 re.1 rest re.2 re.3 low re.4

  maybe_expr : (z : Sign) (e : Option Exp) (ts rest after : List Token) → Perhaps (Reads text) e ts rest
      → part_height height e ≤ d → sign_grip z ≡ 6
      → ((ts : List Token) → starts ts ≡ true → after_sign z ts ≡ None) → IsSign z rest after
      → unless_at z (r.expr 5) ts ≡ Some (e, rest)
  unfolding unless_at
  maybe_expr z None ts rest after p low six off c = rw p (choose_some _ _ _ _ _ (after_sign_is z rest after c) refl)
  maybe_expr z (Some e) ts rest after p low six off c =
      choose_none _ _ _ _ (off ts (reads_starts text e ts rest p))
      (bind_step _ _ _ _ (expr_before z e ts rest after p low six c) refl)

  maybe_first : (f : Option FirstForm) (ts rest after : List Token) → Perhaps (ReadsFirst text) f ts rest
      → part_height first_height f ≤ d
      → IsSign signs.Semicolon rest after → unless_at signs.Semicolon r.first ts ≡ Some (f, rest)
  unfolding unless_at
  maybe_first None ts rest after p low c =
      rw p (choose_some _ _ _ _ _ (after_sign_is signs.Semicolon rest after c) refl)
  maybe_first (Some f) ts rest after p low c =
      choose_none _ _ _ _ (first_no_sign text signs.Semicolon f ts rest p)
      (bind_step _ _ _ _ (h.first f ts rest p low (ends_at signs.Semicolon rest after refl c)) refl)

  maybe_simple : (x : Option SimpleForm) (ts rest after : List Token) → Perhaps (ReadsSimple text) x ts rest
      → part_height simple_height x ≤ d
      → IsSign signs.CloseParen rest after → unless_at signs.CloseParen r.simple ts ≡ Some (x, rest)
  unfolding unless_at
  maybe_simple None ts rest after p low c =
      rw p (choose_some _ _ _ _ _ (after_sign_is signs.CloseParen rest after c) refl)
  maybe_simple (Some x) ts rest after p low c =
      choose_none _ _ _ _ (simple_no_sign text signs.CloseParen x ts rest p)
      (bind_step _ _ _ _ (h.simple x ts rest p low (ends_at signs.CloseParen rest after refl c)) refl)

  -- after its name a statement is read
  after_name : (n : Ident) (ts a rest : List Token) (x : Stm) → AtName text n ts a
      → named_stm_at text r d n a ≡ Some (x, rest) → step_at text r d ts ≡ Some (x, rest)
  unfolding step_at
  after_name n ts a rest x at e = rw at.is
      (ap (λ (t : List ℕ). named_stm_at text r d (record { place = n.place; text = t }) a) (sym at.spelled) ∙ e)

  step_complete : (x : Stm) (ts rest : List Token) → ReadsStm text x ts rest → stm_height x ≤ suc d
      → step_at text r d ts ≡ Some (x, rest)
  unfolding step_at block_at named_stm_at colon_at index_step declare_at function_at table_stm_at define_at
      simple_stm_at static_at typedef_at
      if_at while_at do_at for_at break_at continue_at return_at emit_at when_at ReadsStm stm_height
  step_complete (forms.empty p) ts rest re low = rw re.is refl
  step_complete (forms.block p ss) ts rest re low =
      rw re.2.is (bind_step _ _ _ _ (body_complete ss re.0 re.1 rest re.3 (omega arith) re.4)
      (ap (λ (ss : Stms). Some (forms.block p ss, rest)) (stms_list ss)))
  step_complete (forms.declare n t e) ts rest re low =
      let other = no_table text t re.1 re.2 re.6 in
      after_name n ts re.0 rest _ re.4
      (choose_some _ _ _ _ _ (after_sign_is signs.Colon re.0 re.1 re.5)
      (choose_none _ _ _ _ other.0 (choose_none _ _ _ _ other.1
      (bind_step _ _ _ _ (h.type t re.1 re.2 re.6 (omega arith))
      (bind_step _ _ _ _ (init_complete text r.expr d s.expr h.expr e re.2 re.3 rest re.7 (omega arith) re.8)
      (bind_step _ _ _ _ (after_sign_is signs.Semicolon re.3 rest re.8) refl))))))
  step_complete (forms.define n e) ts rest re low =
      after_name n ts re.0 rest _ re.3
      (choose_none _ _ _ _ (other_sign signs.Colon signs.Define re.0 re.1 re.4 refl)
      (choose_some _ _ _ _ _ (after_sign_is signs.Define re.0 re.1 re.4)
      (bind_step _ _ _ _ (expr_before signs.Semicolon e re.1 re.2 rest re.5 (omega arith) refl re.6)
      (bind_step _ _ _ _ (after_sign_is signs.Semicolon re.2 rest re.6) refl))))
  step_complete (forms.static p n t e) ts rest re low =
      rw re.6.is (bind_step _ _ _ _ (label_is text n re.0 re.1 re.2 re.7 re.8)
      (bind_step _ _ _ _ (h.type t re.2 re.3 re.9 (omega arith))
      (bind_step _ _ _ _ (after_sign_is signs.Assign re.3 re.4 re.10)
      (bind_step _ _ _ _ (expr_before signs.Semicolon e re.4 re.5 rest re.11 (omega arith) refl re.12)
      (bind_step _ _ _ _ (after_sign_is signs.Semicolon re.5 rest re.12) refl)))))
  step_complete (forms.typedef p n t) ts rest re low =
      rw re.4.is (bind_step _ _ _ _ (name_is text n re.0 re.1 re.5)
      (bind_step _ _ _ _ (after_sign_is signs.Assign re.1 re.2 re.6)
      (bind_step _ _ _ _ (h.type t re.2 re.3 re.7 (omega arith))
      (bind_step _ _ _ _ (after_sign_is signs.Semicolon re.3 rest re.8) refl))))
  step_complete (forms.table n t) ts rest re low =
      after_name n ts re.0 rest _ re.3
      (choose_some _ _ _ _ _ (after_sign_is signs.Colon re.0 re.1 re.4)
      (choose_some _ _ _ _ _ (after_word_is words.Table re.1 re.2 re.5)
      (bind_step _ _ _ _ (table_complete text r.type d s.type h.type t re.2 rest re.6 (omega arith)) refl)))
  step_complete (forms.function n ps t ss) ts rest re low =
      let m = declared_complete text r.type d s.type h.type ps re.3 re.4 re.5 re.14 (omega arith) re.15 in
      after_name n ts re.0 rest _ re.10
      (choose_some _ _ _ _ _ (after_sign_is signs.Colon re.0 re.1 re.11)
      (choose_none _ _ _ _ (other_word words.Table words.Function re.1 re.2 re.12 refl)
      (choose_some _ _ _ _ _ (after_word_is words.Function re.1 re.2 re.12)
      (bind_step _ _ _ _ (after_sign_is signs.OpenParen re.2 re.3 re.13)
      (bind_step _ _ _ _ m.1
      (bind_step _ _ _ _ (after_sign_is signs.CloseParen re.4 re.5 re.15)
      (bind_step _ _ _ _ (after_sign_is signs.Colon re.5 re.6 re.16)
      (bind_step _ _ _ _ (h.type t re.6 re.7 re.17 (omega arith))
      (bind_step _ _ _ _ (after_sign_is signs.OpenBrace re.7 re.8 re.18)
      (bind_step _ _ _ _ (body_complete ss re.8 re.9 rest re.19 (omega arith) re.20)
      (ap (λ (ps : Params). Some (forms.function n ps t (stms_of (stm_list ss)), rest)) m.2
      ∙ ap (λ (ss : Stms). Some (forms.function n ps t ss, rest)) (stms_list ss))))))))))))
  step_complete (forms.simple x) ts rest re low =
      let m =
      simple_complete text r.expr d s.expr h.expr x ts re.0 re.1 low (ends_at signs.Semicolon re.0 rest refl re.2) in
      after_name m.0 ts m.1 rest _ m.2
      (choose_none _ _ _ _ m.4 (choose_none _ _ _ _ m.5
      (bind_step _ _ _ _ m.3 (bind_step _ _ _ _ (after_sign_is signs.Semicolon re.0 rest re.2) refl))))
  step_complete (forms.if_only p c x) ts rest re low =
      rw re.2.is (bind_step _ _ _ _ (condition_is c re.0 re.1 re.3 (omega arith))
      (bind_step _ _ _ _ (h.stm x re.1 rest re.4 (omega arith)) (choose_none _ _ _ _ (no_else rest re.5) refl)))
  step_complete (forms.if_else p c x y) ts rest re low =
      rw re.4.is (bind_step _ _ _ _ (condition_is c re.0 re.1 re.5 (omega arith))
      (bind_step _ _ _ _ (h.stm x re.1 re.2 re.6 (omega arith))
      (choose_some _ _ _ _ _ (after_word_is words.Else re.2 re.3 re.7)
      (bind_step _ _ _ _ (h.stm y re.3 rest re.8 (omega arith)) refl))))
  step_complete (forms.while p c x) ts rest re low =
      rw re.2.is (bind_step _ _ _ _ (condition_is c re.0 re.1 re.3 (omega arith))
      (bind_step _ _ _ _ (h.stm x re.1 rest re.4 (omega arith)) refl))
  step_complete (forms.do_while p x c) ts rest re low =
      rw re.4.is (bind_step _ _ _ _ (h.stm x re.0 re.1 re.5 (omega arith))
      (bind_step _ _ _ _ (after_word_is words.While re.1 re.2 re.6)
      (bind_step _ _ _ _ (condition_is c re.2 re.3 re.7 (omega arith))
      (bind_step _ _ _ _ (after_sign_is signs.Semicolon re.3 rest re.8) refl))))
  step_complete (forms.for_loop p f c t x) ts rest re low =
      rw re.8.is (bind_step _ _ _ _ (after_sign_is signs.OpenParen re.0 re.1 re.9)
      (bind_step _ _ _ _ (maybe_first f re.1 re.2 re.3 re.10 (omega arith) re.11)
      (bind_step _ _ _ _ (after_sign_is signs.Semicolon re.2 re.3 re.11)
      (bind_step _ _ _ _ (maybe_expr signs.Semicolon c re.3 re.4 re.5 re.12 (omega arith) refl
      (λ ts b. no_start signs.Semicolon ts refl b) re.13)
      (bind_step _ _ _ _ (after_sign_is signs.Semicolon re.4 re.5 re.13)
      (bind_step _ _ _ _ (maybe_simple t re.5 re.6 re.7 re.14 (omega arith) re.15)
      (bind_step _ _ _ _ (after_sign_is signs.CloseParen re.6 re.7 re.15)
      (bind_step _ _ _ _ (h.stm x re.7 rest re.16 (omega arith)) refl))))))))
  step_complete (forms.break p) ts rest re low =
      rw re.1.is (bind_step _ _ _ _ (after_sign_is signs.Semicolon re.0 rest re.2) refl)
  step_complete (forms.continue p) ts rest re low =
      rw re.1.is (bind_step _ _ _ _ (after_sign_is signs.Semicolon re.0 rest re.2) refl)
  step_complete (forms.return p e) ts rest re low =
      rw re.2.is (bind_step _ _ _ _
      (maybe_expr signs.Semicolon e re.0 re.1 rest re.3 (omega arith) refl
      (λ ts b. no_start signs.Semicolon ts refl b) re.4)
      (bind_step _ _ _ _ (after_sign_is signs.Semicolon re.1 rest re.4) refl))
  step_complete (forms.emit p n es e w) ts rest re low =
      let lows : greatest height re.0 ≤ d = omega (arith, exps_heights re.0, ap heights re.7) in
      let m = all_complete (index_item text r.expr d s.expr) (index_found text r.expr d s.expr h.expr) re.0 re.2 re.3
      (many_join (ReadsIndex text) height d re.0 re.2 re.3 re.10 lows) tt
      (choose_none _ _ _ _ (other_sign signs.OpenBracket signs.Arrow re.3 re.4 re.11 refl) refl) in
      let x = weight_complete text r.expr d s.expr h.expr w re.5 re.6 rest re.13 (omega arith) re.14 in
      rw re.8.is (bind_step _ _ _ _ (name_is text n re.1 re.2 re.9)
      (bind_step _ _ _ _ m
      (bind_step _ _ _ _ (after_sign_is signs.Arrow re.3 re.4 re.11)
      (bind_step _ _ _ _ (whole text r.expr d s.expr h.expr e re.4 re.5 re.12 (omega arith) x.1)
      (bind_step _ _ _ _ x.0
      (bind_step _ _ _ _ (after_sign_is signs.Semicolon re.6 rest re.14)
      (ap (λ (es : Exps). Some (forms.emit p n es e w, rest)) (sym re.7))))))))
  step_complete (forms.when p qs c x) ts rest re low =
      let none = no_quantifier text c re.2 re.3 re.8 (other_sign signs.Comma signs.CloseParen re.3 re.4 re.9 refl)
      (other_sign signs.Colon signs.CloseParen re.3 re.4 re.9 refl) in
      rw re.5.is (bind_step _ _ _ _ (after_sign_is signs.OpenParen re.0 re.1 re.6)
      (bind_step _ _ _ _ (quantifiers_complete text r.type d s.type h.type qs re.1 re.2 re.7 (omega arith) none)
      (bind_step _ _ _ _ (expr_before signs.CloseParen c re.2 re.3 re.4 re.8 (omega arith) refl re.9)
      (bind_step _ _ _ _ (after_sign_is signs.CloseParen re.3 re.4 re.9)
      (bind_step _ _ _ _ (h.stm x re.4 rest re.10 (omega arith)) refl)))))

stm_height_positive : (x : Stm) → 0 < stm_height x
unfolding stm_height
stm_height_positive (forms.simple s) = simple_positive s
stm_height_positive _ = omega arith

pub stm_complete : (text : Spelling) (d : ℕ) → IsCompleteStm text (stm_at text d) d
unfolding stm_at
stm_complete text zero x ts rest re low = absurd (omega (arith, stm_height_positive x))
stm_complete text (suc d) x ts rest re low =
    step_complete text _ d
    (record {
      expr = expr_sound text d;
      type = type_sound text d;
      simple = simple_at_sound text d;
      first = first_at_sound text d;
      stm = stm_sound text d;
    })
    (record {
      expr = expr_complete text d;
      type = type_complete text d;
      simple = simple_at_complete text d;
      first = first_at_complete text d;
      stm =
          stm_complete text d;
    }) x ts rest re low

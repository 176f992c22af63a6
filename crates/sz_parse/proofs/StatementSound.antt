-- What is read as a statement is spelled so.
use Rattle.std.proofs.Common.{◌≡◌, ℕ, zero, suc, ◌≤◌, List, [], ◌∷◌, Some, None, max, refl, ap, subst, arith}
use Rattle.sz_types.specs.declared.place.Place.{Place}
use Rattle.sz_lex.specs.declared.token.Token.{Token}
use Rattle.sz_lex.specs.declared.token.Kind.{Kind}
use Rattle.sz_lex.specs.declared.token.Kind.TheVariants as kinds
use Rattle.sz_lex.specs.declared.sign.Sign.{Sign}
use Rattle.sz_lex.specs.declared.sign.Sign.TheVariants as signs
use Rattle.sz_lex.specs.declared.word.Word.{Word}
use Rattle.sz_lex.specs.declared.word.Word.TheVariants as words
use Rattle.sz_tree.specs.Names.{Ident}
use Rattle.sz_tree.specs.Expressions.{Exp, exps_of, height, heights}
use Rattle.sz_tree.specs.Statements.{Stm, stms_of}
use Rattle.sz_tree.specs.Statements.{greatest, simple_height}
use Rattle.sz_tree.specs.Statements.{first_height, stm_height, stm_heights}
use Rattle.sz_parse_expr.specs.Tokens.{Spelling, token, At, IsSign, IsWord, AtName, Many}
use Rattle.sz_parse_expr.specs.Expressions.{Reads}
use Rattle.sz_parse.specs.Statements.{NotElse, ReadsIndex, ReadsSimple}
use Rattle.sz_parse.specs.Statements.{ReadsFirst}
use Rattle.sz_parse.specs.Statements.{ReadsStm, ReadsStms}
use Rattle.sz_parse_expr.specs.Reading.{after_sign, after_word, ident_of}
use Rattle.sz_parse.specs.ReadingStatements.{Readers, begins_stm, stm_step, body_at, block_at, declare_at}
use Rattle.sz_parse.specs.ReadingStatements.{function_at, table_stm_at, colon_at, define_at, simple_stm_at, named_stm_at, static_at}
use Rattle.sz_parse.specs.ReadingStatements.{typedef_at, if_at, while_at, do_at, for_at, break_at, continue_at, return_at, emit_at, when_at}
use Rattle.sz_parse.specs.ReadingStatements.{stm_bracketed, stm_worded, stm_here, step_at, stm_at, readers_at}
use Rattle.sz_parse_expr.proofs.Holds.{Holds, some_holds, none_holds, bind_holds, choose_holds, chosen_holds, weaker}
use Rattle.sz_parse_expr.proofs.Items.{IsItem, Low, all_sound, many_split, known}
use Rattle.sz_parse_expr.proofs.TokenLemmas.{after_sign_sound, after_word_sound, after_word_is, name_sound, here_is_name}
use Rattle.sz_parse_expr.proofs.PostfixSound.{IsSound, condition_sound}
use Rattle.sz_parse_expr.proofs.ExpressionSound.{expr_sound}
use Rattle.sz_parse_expr.proofs.TypeSound.{IsSoundType, label_sound}
use Rattle.sz_parse_expr.proofs.TypeSound.{type_sound}
use Rattle.sz_parse.proofs.SimpleSound.{stm_shorter, ParsedSimple, ParsedFirst, ParsedStm, IsSoundStm, unless_sound, init_sound}
use Rattle.sz_parse.proofs.SimpleSound.{weight_sound, index_item, simple_sound, simple_at_sound, first_at_sound}
use Rattle.sz_parse.proofs.TableSound.{table_sound, quantifiers_sound, declared_sound}

-- ---- statements

-- what is known of the readers of the parts
pub record AreSound (text : Spelling) (r : Readers) (d : ℕ) : Type 0 where
  pub expr : IsSound text r.expr d
  pub type : IsSoundType text r.type d
  pub simple : (ts : List Token) → Holds (r.simple ts) (ParsedSimple text d ts)
  pub first : (ts : List Token) → Holds (r.first ts) (ParsedFirst text d ts)
  pub stm : IsSoundStm text r.stm d

pub exps_heights : (es : List Exp) → heights (exps_of es) ≡ greatest height es
unfolding height
exps_heights [] = refl
exps_heights (e ∷ es) = ap (max (height e)) (exps_heights es)

-- statements, and the closing brace
pub record ParsedBody (text : Spelling) (d : ℕ) (ts : List Token) (y : List Stm × List Token) : Type 0 where
  pub later : List Token
  pub reads : ReadsStms text (stms_of y.0) ts later
  pub closes : IsSign signs.CloseBrace later y.1
  pub low : stm_heights (stms_of y.0) ≤ d

module _ (text : Spelling) (r : Readers) (d : ℕ) (h : AreSound text r d) where
  begins_stm_sound : (ts : List Token) → Holds (begins_stm ts) (λ b. b ≡ ts)
  unfolding begins_stm
  begins_stm_sound [] = none_holds _
  begins_stm_sound (t ∷ ts) =
      choose_holds (known (after_sign signs.CloseBrace (t ∷ ts))) (some_holds _ _ refl) (λ a c. none_holds _)

  stm_step_sound : (ts : List Token) → Holds (stm_step r.stm ts) (λ o. Holds o (λ x. ParsedStm text d ts x))
  unfolding stm_step
  stm_step_sound ts = choose_holds (begins_stm_sound ts) (none_holds _)
      (λ b e. some_holds _ _ (subst (λ (u : List Token). Holds (r.stm b) (λ x. ParsedStm text d u x)) e (h.stm b)))

  pub stm_item : IsItem (stm_step r.stm) (Low (ReadsStm text) stm_height d)
  stm_item = record {
    sound = λ ts o e. (stm_step_sound ts).holds o e;
    shorter = λ x ts rest i. stm_shorter text x ts rest i.0;
  }

  stms_of_items : (ss : List Stm) (ts rest : List Token) → Many (Low (ReadsStm text) stm_height d) ss ts rest
      → ReadsStms text (stms_of ss) ts rest × (stm_heights (stms_of ss) ≤ d)
  unfolding Many ReadsStm stm_height
  stms_of_items [] ts rest m = (m, omega arith)
  stms_of_items (s ∷ ss) ts rest m =
      let l = stms_of_items ss m.0 rest m.2 in
      ((m.0, m.1.0, l.0), omega (arith, m.1.1, l.1))

  body_sound : (ts : List Token) → Holds (body_at r.stm ts) (ParsedBody text d ts)
  unfolding body_at
  body_sound ts = bind_holds (all_sound stm_item ts) (λ y m. bind_holds (after_sign_sound signs.CloseBrace y.1) (λ z c.
      let l = stms_of_items y.0 ts y.1 m in
      some_holds _ _ (record { later = y.1; reads = l.0; closes = c; low = l.1 })))

  block_sound : (ts0 : List Token) (p : Place) (ts : List Token) → At p (kinds.Sign signs.OpenBrace) ts0 ts
      → Holds (block_at r.stm p ts) (ParsedStm text (suc d) ts0)
  unfolding block_at ReadsStm stm_height
  block_sound ts0 p ts at =
      bind_holds (body_sound ts) (λ y m. some_holds _ _ ((ts, m.later, at, m.reads, m.closes), omega (arith, m.low)))

  declare_sound : (ts0 ts a : List Token) (n : Ident) → AtName text n ts0 ts → IsSign signs.Colon ts a
      → Holds (declare_at r n a) (ParsedStm text (suc d) ts0)
  unfolding declare_at ReadsStm stm_height
  declare_sound ts0 ts a n at c =
      bind_holds (h.type a) (λ t g. bind_holds (init_sound text r.expr d h.expr t.1)
      (λ e ge. bind_holds (after_sign_sound signs.Semicolon e.1) (λ z s.
      some_holds _ _ ((ts, a, t.1, e.1, at, c, g.reads, ge.0, s), omega (arith, g.low, ge.1)))))

  function_sound : (ts0 ts a b : List Token) (n : Ident) → AtName text n ts0 ts → IsSign signs.Colon ts a
      → IsWord words.Function a b → Holds (function_at text r n b) (ParsedStm text (suc d) ts0)
  unfolding function_at ReadsStm stm_height
  function_sound ts0 ts a b n at c w =
      bind_holds (after_sign_sound signs.OpenParen b)
      (λ f o. bind_holds (declared_sound text r.type d h.type f)
      (λ ps gp. bind_holds (after_sign_sound signs.CloseParen ps.1)
      (λ i cl. bind_holds (after_sign_sound signs.Colon i) (λ j m. bind_holds (h.type j)
      (λ t g. bind_holds (after_sign_sound signs.OpenBrace t.1) (λ k ob. bind_holds (body_sound k) (λ y gb.
      some_holds _ _ (
        (ts, a, b, f, ps.1, i, j, t.1, k, gb.later, at, c, w, o, gp.0, cl, m, g.reads, ob, gb.reads, gb.closes),
        omega (arith, gp.1, g.low, gb.low),
      ))))))))

  table_stm_sound : (ts0 ts a b : List Token) (n : Ident) → AtName text n ts0 ts → IsSign signs.Colon ts a
      → IsWord words.Table a b → Holds (table_stm_at text r n b) (ParsedStm text (suc d) ts0)
  unfolding table_stm_at ReadsStm stm_height
  table_stm_sound ts0 ts a b n at c w = bind_holds (table_sound text r.type d h.type b)
      (λ t g. some_holds _ _ ((ts, a, b, at, c, w, g.0), omega (arith, g.1)))

  colon_sound : (ts0 ts a : List Token) (n : Ident) → AtName text n ts0 ts → IsSign signs.Colon ts a
      → Holds (colon_at text r n a) (ParsedStm text (suc d) ts0)
  unfolding colon_at
  colon_sound ts0 ts a n at c =
      choose_holds (after_word_sound words.Table a)
      (choose_holds (after_word_sound words.Function a) (declare_sound ts0 ts a n at c)
      (λ b w. function_sound ts0 ts a b n at c w)) (λ b w. table_stm_sound ts0 ts a b n at c w)

  define_sound : (ts0 ts a : List Token) (n : Ident) → AtName text n ts0 ts → IsSign signs.Define ts a
      → Holds (define_at r n a) (ParsedStm text (suc d) ts0)
  unfolding define_at ReadsStm stm_height
  define_sound ts0 ts a n at c =
      bind_holds (h.expr 5 a)
      (λ x g. bind_holds (after_sign_sound signs.Semicolon x.1)
      (λ z s. some_holds _ _ ((ts, a, x.1, at, c, g.reads, s), omega (arith, g.low))))

  simple_stm_sound : (ts0 ts : List Token) (n : Ident) → AtName text n ts0 ts
      → Holds (simple_stm_at text r d n ts) (ParsedStm text (suc d) ts0)
  unfolding simple_stm_at ReadsStm stm_height
  simple_stm_sound ts0 ts n at =
      bind_holds (simple_sound text r.expr d h.expr ts0 n ts at)
      (λ s g. bind_holds (after_sign_sound signs.Semicolon s.1) (λ z c. some_holds _ _ ((s.1, g.0, c), g.1)))

  named_stm_sound : (ts0 ts : List Token) (n : Ident) → AtName text n ts0 ts
      → Holds (named_stm_at text r d n ts) (ParsedStm text (suc d) ts0)
  unfolding named_stm_at
  named_stm_sound ts0 ts n at =
      choose_holds (after_sign_sound signs.Colon ts)
      (choose_holds (after_sign_sound signs.Define ts) (simple_stm_sound ts0 ts n at)
      (λ a c. define_sound ts0 ts a n at c)) (λ a c. colon_sound ts0 ts a n at c)

  static_sound : (ts0 : List Token) (p : Place) (ts : List Token) → At p (kinds.Word words.Static) ts0 ts
      → Holds (static_at text r p ts) (ParsedStm text (suc d) ts0)
  unfolding static_at ReadsStm stm_height
  static_sound ts0 p ts at =
      bind_holds (label_sound text ts)
      (λ n l. bind_holds (h.type n.1)
      (λ t g. bind_holds (after_sign_sound signs.Assign t.1)
      (λ a e. bind_holds (h.expr 5 a) (λ x gx. bind_holds (after_sign_sound signs.Semicolon x.1) (λ z s.
      some_holds _ _ (
        (ts, l.later, n.1, t.1, a, x.1, at, l.name, l.colon, g.reads, e, gx.reads, s),
        omega (arith, g.low, gx.low),
      ))))))

  typedef_sound : (ts0 : List Token) (p : Place) (ts : List Token) → At p (kinds.Word words.Type) ts0 ts
      → Holds (typedef_at text r p ts) (ParsedStm text (suc d) ts0)
  unfolding typedef_at ReadsStm stm_height
  typedef_sound ts0 p ts at =
      bind_holds (name_sound text ts)
      (λ n l. bind_holds (after_sign_sound signs.Assign n.1)
      (λ a e. bind_holds (h.type a) (λ t g. bind_holds (after_sign_sound signs.Semicolon t.1) (λ z s.
      some_holds _ _ ((ts, n.1, a, t.1, at, l, e, g.reads, s), omega (arith, g.low))))))

  not_else : (ts : List Token) → after_word words.Else ts ≡ None → NotElse ts
  not_else ts e rest w = let is : after_word words.Else ts ≡ Some rest = after_word_is words.Else ts rest w in cc

  if_sound : (ts0 : List Token) (p : Place) (ts : List Token) → At p (kinds.Word words.If) ts0 ts
      → Holds (if_at r p ts) (ParsedStm text (suc d) ts0)
  unfolding if_at ReadsStm stm_height
  if_sound ts0 p ts at =
      bind_holds (condition_sound text r.expr d h.expr ts)
      (λ c gc. bind_holds (h.stm c.1) (λ s gs. chosen_holds (after_word_sound words.Else s.1)
      (λ e. some_holds _ _ (
        (ts, c.1, at, (gc.inner, gc.closed.later, gc.opens, gc.closed.reads, gc.closed.closes), gs.0, not_else s.1 e),
        omega (arith, gc.closed.low, gs.1),
      ))
      (λ g el. bind_holds (h.stm g)
      (λ t gt. some_holds _ _ (
        (ts, c.1, s.1, g, at, (gc.inner, gc.closed.later, gc.opens, gc.closed.reads, gc.closed.closes), gs.0, el, gt.0),
        omega (arith, gc.closed.low, gs.1, gt.1),
      )))))

  while_sound : (ts0 : List Token) (p : Place) (ts : List Token) → At p (kinds.Word words.While) ts0 ts
      → Holds (while_at r p ts) (ParsedStm text (suc d) ts0)
  unfolding while_at ReadsStm stm_height
  while_sound ts0 p ts at =
      bind_holds (condition_sound text r.expr d h.expr ts) (λ c gc. bind_holds (h.stm c.1) (λ s gs.
      some_holds _ _ (
        (ts, c.1, at, (gc.inner, gc.closed.later, gc.opens, gc.closed.reads, gc.closed.closes), gs.0),
        omega (arith, gc.closed.low, gs.1),
      )))

  do_sound : (ts0 : List Token) (p : Place) (ts : List Token) → At p (kinds.Word words.Do) ts0 ts
      → Holds (do_at r p ts) (ParsedStm text (suc d) ts0)
  unfolding do_at ReadsStm stm_height
  do_sound ts0 p ts at =
      bind_holds (h.stm ts)
      (λ s gs. bind_holds (after_word_sound words.While s.1)
      (λ a w. bind_holds (condition_sound text r.expr d h.expr a)
      (λ c gc. bind_holds (after_sign_sound signs.Semicolon c.1) (λ z e.
      some_holds _ _ (
        (ts, s.1, a, c.1, at, gs.0, w, (gc.inner, gc.closed.later, gc.opens, gc.closed.reads, gc.closed.closes), e),
        omega (arith, gc.closed.low, gs.1),
      )))))

  expr_low : (ts : List Token) → Holds (r.expr 5 ts) (λ x. Low (Reads text) height d x.0 ts x.1)
  expr_low ts = weaker (h.expr 5 ts) (λ x g. (g.reads, g.low))

  for_sound : (ts0 : List Token) (p : Place) (ts : List Token) → At p (kinds.Word words.For) ts0 ts
      → Holds (for_at r p ts) (ParsedStm text (suc d) ts0)
  unfolding for_at ReadsStm stm_height
  for_sound ts0 p ts at =
      bind_holds (after_sign_sound signs.OpenParen ts)
      (λ a o. bind_holds (unless_sound (ReadsFirst text) first_height d signs.Semicolon r.first a (h.first a))
      (λ f gf. bind_holds (after_sign_sound signs.Semicolon f.1) (λ b c1.
      bind_holds (unless_sound (Reads text) height d signs.Semicolon (r.expr 5) b (expr_low b))
      (λ c gc. bind_holds (after_sign_sound signs.Semicolon c.1) (λ g c2.
      bind_holds (unless_sound (ReadsSimple text) simple_height d signs.CloseParen r.simple g (h.simple g))
      (λ t gt. bind_holds (after_sign_sound signs.CloseParen t.1) (λ k c3. bind_holds (h.stm k) (λ s gs.
      some_holds _ _ (
        (ts, a, f.1, b, c.1, g, t.1, k, at, o, gf.0, c1, gc.0, c2, gt.0, c3, gs.0),
        omega (arith, gf.1, gc.1, gt.1, gs.1),
      )))))))))

  break_sound : (ts0 : List Token) (p : Place) (ts : List Token) → At p (kinds.Word words.Break) ts0 ts
      → Holds (break_at p ts) (ParsedStm text (suc d) ts0)
  unfolding break_at ReadsStm stm_height
  break_sound ts0 p ts at =
      bind_holds (after_sign_sound signs.Semicolon ts) (λ z c. some_holds _ _ ((ts, at, c), omega arith))

  continue_sound : (ts0 : List Token) (p : Place) (ts : List Token) → At p (kinds.Word words.Continue) ts0 ts
      → Holds (continue_at p ts) (ParsedStm text (suc d) ts0)
  unfolding continue_at ReadsStm stm_height
  continue_sound ts0 p ts at =
      bind_holds (after_sign_sound signs.Semicolon ts) (λ z c. some_holds _ _ ((ts, at, c), omega arith))

  return_sound : (ts0 : List Token) (p : Place) (ts : List Token) → At p (kinds.Word words.Return) ts0 ts
      → Holds (return_at r p ts) (ParsedStm text (suc d) ts0)
  unfolding return_at ReadsStm stm_height
  return_sound ts0 p ts at =
      bind_holds (unless_sound (Reads text) height d signs.Semicolon (r.expr 5) ts (expr_low ts))
      (λ e ge. bind_holds (after_sign_sound signs.Semicolon e.1)
      (λ z c. some_holds _ _ ((ts, e.1, at, ge.0, c), omega (arith, ge.1))))

  emit_sound : (ts0 : List Token) (p : Place) (ts : List Token) → At p (kinds.Word words.Emit) ts0 ts
      → Holds (emit_at text r p ts) (ParsedStm text (suc d) ts0)
  unfolding emit_at ReadsStm stm_height
  emit_sound ts0 p ts at =
      bind_holds (name_sound text ts)
      (λ n l. bind_holds (all_sound (index_item text r.expr d h.expr) n.1)
      (λ i m. bind_holds (after_sign_sound signs.Arrow i.1) (λ a ar. bind_holds (h.expr 5 a) (λ x gx.
      bind_holds (weight_sound text r.expr d h.expr x.1)
      (λ w gw. bind_holds (after_sign_sound signs.Semicolon w.1) (λ z c.
      let is = many_split (ReadsIndex text) height d i.0 n.1 i.1 m in
      some_holds _ _ (
        (i.0, ts, n.1, i.1, a, x.1, w.1, refl, at, l, is.0, ar, gx.reads, gw.0, c),
        omega (arith, is.1, exps_heights i.0, gx.low, gw.1),
      )))))))

  when_sound : (ts0 : List Token) (p : Place) (ts : List Token) → At p (kinds.Word words.When) ts0 ts
      → Holds (when_at text r p ts) (ParsedStm text (suc d) ts0)
  unfolding when_at ReadsStm stm_height
  when_sound ts0 p ts at =
      bind_holds (after_sign_sound signs.OpenParen ts)
      (λ a o. bind_holds (quantifiers_sound text r.type d h.type a)
      (λ q gq. bind_holds (h.expr 5 q.1)
      (λ c gc. bind_holds (after_sign_sound signs.CloseParen c.1) (λ b cl. bind_holds (h.stm b) (λ s gs.
      some_holds _ _ ((ts, a, q.1, c.1, b, at, o, gq.0, gc.reads, cl, gs.0), omega (arith, gq.1, gc.low, gs.1)))))))

  stm_here_sound : (t : Token) (ts : List Token)
      → Holds (stm_here text r d t t.kind ts) (ParsedStm text (suc d) (t ∷ ts))
  unfolding ReadsStm stm_height
  stm_here_sound t ts = go t.kind refl
    where
      at : (k : Kind) → t.kind ≡ k → At t.place k (t ∷ ts) ts
      at k e = record { start = t.start; len = t.len; is = ap (λ (k : Kind). token k t.place t.start t.len ∷ ts) e }

      sign : (s : Sign) → t.kind ≡ kinds.Sign s → Holds (stm_bracketed r t.place s ts) (ParsedStm text (suc d) (t ∷ ts))
      sign signs.Semicolon e = some_holds _ _ (at _ e, omega arith)
      sign signs.OpenBrace e = block_sound (t ∷ ts) t.place ts (at _ e)
      sign _ e = none_holds _

      word : (w : Word) → t.kind ≡ kinds.Word w
          → Holds (stm_worded text r t.place w ts) (ParsedStm text (suc d) (t ∷ ts))
      word words.Static e = static_sound (t ∷ ts) t.place ts (at _ e)
      word words.Type e = typedef_sound (t ∷ ts) t.place ts (at _ e)
      word words.If e = if_sound (t ∷ ts) t.place ts (at _ e)
      word words.While e = while_sound (t ∷ ts) t.place ts (at _ e)
      word words.Do e = do_sound (t ∷ ts) t.place ts (at _ e)
      word words.For e = for_sound (t ∷ ts) t.place ts (at _ e)
      word words.Break e = break_sound (t ∷ ts) t.place ts (at _ e)
      word words.Continue e = continue_sound (t ∷ ts) t.place ts (at _ e)
      word words.Return e = return_sound (t ∷ ts) t.place ts (at _ e)
      word words.Emit e = emit_sound (t ∷ ts) t.place ts (at _ e)
      word words.When e = when_sound (t ∷ ts) t.place ts (at _ e)
      word _ e = none_holds _

      go : (k : Kind) → t.kind ≡ k → Holds (stm_here text r d t k ts) (ParsedStm text (suc d) (t ∷ ts))
      go kinds.Name e = named_stm_sound (t ∷ ts) ts (ident_of text t) (here_is_name text t ts e)
      go (kinds.Sign s) e = sign s e
      go (kinds.Word w) e = word w e
      go _ e = none_holds _

  step_sound : (ts : List Token) → Holds (step_at text r d ts) (ParsedStm text (suc d) ts)
  unfolding step_at
  step_sound [] = none_holds _
  step_sound (t ∷ ts) = stm_here_sound t ts

pub stm_sound : (text : Spelling) (d : ℕ) → IsSoundStm text (stm_at text d) d
unfolding stm_at
stm_sound text zero ts = none_holds _
stm_sound text (suc d) ts =
    step_sound text _ d (record {
      expr = expr_sound text d;
      type = type_sound text d;
      simple = simple_at_sound text d;
      first = first_at_sound text d;
      stm = stm_sound text d;
    }) ts

-- what is known of the readers of the parts
are_sound : (text : Spelling) (d : ℕ) → AreSound text (readers_at text d) d
are_sound text d =
    record {
      expr = expr_sound text d;
      type = type_sound text d;
      simple = simple_at_sound text d;
      first = first_at_sound text d;
      stm = stm_sound text d;
    }

pub stms_item : (text : Spelling) (d : ℕ) → IsItem (stm_step (stm_at text d)) (Low (ReadsStm text) stm_height d)
stms_item text d = stm_item text (readers_at text d) d (are_sound text d)

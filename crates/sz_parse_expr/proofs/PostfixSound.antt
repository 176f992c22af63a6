-- What is read as an expression with no operator at its front is spelled so.
use Rattle.std.proofs.Common.{◌≡◌, ℕ, zero, suc, ◌≤◌, ◌<◌, List, [], ◌∷◌, length, refl}
use Rattle.std.proofs.Common.{ap, arith}
use Rattle.std.proofs.lemmas.Bool.{leb-true}
use Rattle.sz_types.specs.declared.place.Place.{Place}
use Rattle.sz_lex.specs.declared.token.Token.{Token}
use Rattle.sz_lex.specs.declared.token.Kind.{Kind}
use Rattle.sz_lex.specs.declared.token.Kind.TheVariants as kinds
use Rattle.sz_lex.specs.declared.sign.Sign.{Sign}
use Rattle.sz_lex.specs.declared.sign.Sign.TheVariants as signs
use Rattle.sz_lex.specs.declared.word.Word.{Word}
use Rattle.sz_lex.specs.declared.word.Word.TheVariants as words
use Rattle.sz_lex.specs.declared.escape.Quoted.TheVariants as quoteds
use Rattle.sz_tree.specs.declared.types.BasicType.{BasicType}
use Rattle.sz_tree.specs.Names.{Ident}
use Rattle.sz_tree.specs.Expressions.{Exp, literal, named, call, def, paren, convert, list, mapping, index, slice, field, unary}
use Rattle.sz_tree.specs.Expressions.{binary, Exps, end, more, Pairs, no_pairs, pair, exps_of, pairs_of}
use Rattle.sz_tree.specs.Expressions.{loose, height, heights, pair_heights, IsPostfix}
use Rattle.sz_parse_expr.specs.Tokens.{Spelling, token, At, IsSign, AtName, Many}
use Rattle.sz_parse_expr.specs.Expressions.{basic_word, Converts, Reads, ReadsArgs, ReadsMore, ReadsEntries, ReadsPairs}
use Rattle.sz_parse_expr.specs.Reading.{ident_of}
use Rattle.sz_parse_expr.specs.ReadingExpressions.{Sub}
use Rattle.sz_parse_expr.specs.ReadingExpressions.{comma_step, pair_at, pair_step, items_after, pairs_after, args_at, call_at, named_at}
use Rattle.sz_parse_expr.specs.ReadingExpressions.{closed_at, condition_at, paren_at, def_at, convert_at, list_at, map_at, composite_at}
use Rattle.sz_parse_expr.specs.ReadingExpressions.{bracketed, worded, primary_here, bracket_at, field_at, part_step, tail_at}
use Rattle.sz_parse_expr.proofs.Holds.{Holds, some, some_holds, none_holds, bind_holds, choose_holds, guard_holds, weaker}
use Rattle.sz_parse_expr.proofs.Items.{IsItem, all_sound}
use Rattle.sz_parse_expr.proofs.TokenLemmas.{after_sign_sound, name_sound, at_length, is_length, name_length, decoded_sound, here_is_name}

-- ---- expressions take tokens

module _ (text : Spelling) where
  mutual
    unfolding Reads

    pub shorter : (e : Exp) (ts rest : List Token) → Reads text e ts rest → length rest < length ts
    shorter (literal p l) ts rest h = omega (arith, ap length h.is)
    shorter (named n) ts rest h = omega (arith, name_length h)
    shorter (call n es) ts rest h = omega (arith, name_length h.3, is_length h.4, args_shorter es _ _ h.5, is_length h.6)
    shorter (def p e) ts rest h = omega (arith, at_length h.3, is_length h.4, shorter e _ _ h.5, is_length h.6)
    shorter (paren p e) ts rest h = omega (arith, at_length h.2, shorter e _ _ h.3, is_length h.4)
    shorter (convert p t e) ts rest h = omega (arith, at_length h.4, is_length h.5, shorter e _ _ h.6, is_length h.7)
    shorter (list p es) ts rest h = omega (arith, at_length h.2, args_shorter es _ _ h.3, is_length h.4)
    shorter (mapping p ps) ts rest h = omega (arith, at_length h.2, entries_shorter ps _ _ h.3, is_length h.4)
    shorter (index p e i) ts rest h = omega (arith, shorter e _ _ h.5, is_length h.6, shorter i _ _ h.7, is_length h.8)
    shorter (slice p e i j) ts rest h = omega (arith, shorter e _ _ h.7, is_length h.8, shorter i _ _ h.9, is_length h.10, shorter j _ _ h.11, is_length h.12)
    shorter (field p e n) ts rest h = omega (arith, shorter e _ _ h.4, is_length h.5, name_length h.6)
    shorter (unary p o e) ts rest h = omega (arith, at_length h.1, shorter e _ _ h.3)
    shorter (binary p o l r) ts rest h = omega (arith, shorter l _ _ h.4, is_length h.5, shorter r _ _ h.7)

    pub args_shorter : (es : Exps) (ts rest : List Token) → ReadsArgs text es ts rest → length rest ≤ length ts
    args_shorter end ts rest h = omega (arith, ap length h)
    args_shorter (more e es) ts rest h = omega (arith, shorter e _ _ h.1, more_shorter es _ _ h.2)

    pub more_shorter : (es : Exps) (ts rest : List Token) → ReadsMore text es ts rest → length rest ≤ length ts
    more_shorter end ts rest h = omega (arith, ap length h)
    more_shorter (more e es) ts rest h = omega (arith, is_length h.2, shorter e _ _ h.3, more_shorter es _ _ h.4)

    pub entries_shorter : (ps : Pairs) (ts rest : List Token) → ReadsEntries text ps ts rest → length rest ≤ length ts
    entries_shorter no_pairs ts rest h = omega (arith, is_length h)
    entries_shorter (pair k v ps) ts rest h = omega (arith, shorter k _ _ h.3, is_length h.4, shorter v _ _ h.5, pairs_shorter ps _ _ h.6)

    pub pairs_shorter : (ps : Pairs) (ts rest : List Token) → ReadsPairs text ps ts rest → length rest ≤ length ts
    pairs_shorter no_pairs ts rest h = omega (arith, ap length h)
    pairs_shorter (pair k v ps) ts rest h = omega (arith, is_length h.4, shorter k _ _ h.5, is_length h.6, shorter v _ _ h.7, pairs_shorter ps _ _ h.8)

-- ---- what is known of the parts

-- x is an expression at the front of ts, and what follows it
pub record Parsed (text : Spelling) (d l : ℕ) (ts : List Token) (x : Exp × List Token) : Type 0 where
  pub reads : Reads text x.0 ts x.1
  pub low : height x.0 ≤ d
  pub tight : loose x.0 ≤ l

abbrev pub IsSound : Spelling → Sub → ℕ → Type 0
IsSound text sub d = (l : ℕ) (ts : List Token) → Holds (sub l ts) (Parsed text d l ts)

-- x is such an expression that an index may stand after
pub record ParsedTight (text : Spelling) (d : ℕ) (ts : List Token) (x : Exp × List Token) : Type 0 where
  pub reads : Reads text x.0 ts x.1
  pub low : height x.0 ≤ d
  pub postfix : IsPostfix x.0

-- a comma and an expression
pub record CommaItem (text : Spelling) (d : ℕ) (e : Exp) (ts rest : List Token) : Type 0 where
  pub later : List Token
  pub comma : IsSign signs.Comma ts later
  pub reads : Reads text e later rest
  pub low : height e ≤ d

-- a comma, a key and its value
pub record PairItem (text : Spelling) (d : ℕ) (p : Exp × Exp) (ts rest : List Token) : Type 0 where
  pub a : List Token
  pub b : List Token
  pub c : List Token
  pub comma : IsSign signs.Comma ts a
  pub key : Reads text p.0 a b
  pub colon : IsSign signs.Colon b c
  pub value : Reads text p.1 c rest
  pub low : height p.0 ≤ d
  pub low_value : height p.1 ≤ d

module _ (text : Spelling) (sub : Sub) (d : ℕ) (h : IsSound text sub d) where
  comma_step_sound : (ts : List Token) → Holds (comma_step sub ts) (λ r. Holds r (λ x. CommaItem text d x.0 ts x.1))
  unfolding comma_step
  comma_step_sound ts = choose_holds (after_sign_sound signs.Comma ts) (none_holds _) (λ a c.
      some_holds _ _ (weaker (h 5 a) (λ x g. record { later = a; comma = c; reads = g.reads; low = g.low })))

  pub comma_item : IsItem (comma_step sub) (CommaItem text d)
  comma_item = record {
    sound = λ ts r e. (comma_step_sound ts).holds r e;
    shorter = λ x ts rest i. omega (arith, is_length i.comma, shorter text x i.later rest i.reads);
  }

  pair_step_sound : (ts : List Token) → Holds (pair_step sub ts) (λ r. Holds r (λ x. PairItem text d x.0 ts x.1))
  unfolding pair_step pair_at
  pair_step_sound ts = choose_holds (after_sign_sound signs.Comma ts) (none_holds _) (λ a c.
      some_holds _ _ (bind_holds (h 5 a) (λ k gk. bind_holds (after_sign_sound signs.Colon k.1) (λ b m. bind_holds (h 5 b) (λ v gv.
      some_holds _ _ (record { a = a; b = k.1; c = b; comma = c; key = gk.reads; colon = m; value = gv.reads; low = gk.low; low_value = gv.low }))))))

  pub pair_item : IsItem (pair_step sub) (PairItem text d)
  pair_item = record {
    sound = λ ts r e. (pair_step_sound ts).holds r e;
    shorter = λ x ts rest i. omega (arith, is_length i.comma, shorter text x.0 i.a i.b i.key, is_length i.colon, shorter text x.1 i.c rest i.value);
  }

  more_of_items : (es : List Exp) (ts rest : List Token) → Many (CommaItem text d) es ts rest → ReadsMore text (exps_of es) ts rest × (heights (exps_of es) ≤ d)
  unfolding Many Reads height
  more_of_items [] ts rest m = (m, omega arith)
  more_of_items (e ∷ es) ts rest m =
      let i = m.1 in
      let l = more_of_items es m.0 rest m.2 in
      ((i.later, m.0, i.comma, i.reads, l.0), omega (arith, i.low, l.1))

  pairs_of_items : (ps : List (Exp × Exp)) (ts rest : List Token) → Many (PairItem text d) ps ts rest → ReadsPairs text (pairs_of ps) ts rest
      × (pair_heights (pairs_of ps) ≤ d)
  unfolding Many Reads height
  pairs_of_items [] ts rest m = (m, omega arith)
  pairs_of_items (p ∷ ps) ts rest m =
      let i = m.1 in
      let l = pairs_of_items ps m.0 rest m.2 in
      ((i.a, i.b, i.c, m.0, i.comma, i.key, i.colon, i.value, l.0), omega (arith, i.low, i.low_value, l.1))

-- arguments, or the items of a list
pub record ParsedArgs (text : Spelling) (d : ℕ) (ts : List Token) (y : List Exp × List Token) : Type 0 where
  pub reads : ReadsArgs text (exps_of y.0) ts y.1
  pub low : heights (exps_of y.0) ≤ d

-- the entries of a map
pub record ParsedEntries (text : Spelling) (d : ℕ) (ts : List Token) (y : List (Exp × Exp) × List Token) : Type 0 where
  pub reads : ReadsEntries text (pairs_of y.0) ts y.1
  pub low : pair_heights (pairs_of y.0) ≤ d

-- the arguments of a call and the closing parenthesis
pub record ParsedCall (text : Spelling) (d : ℕ) (ts : List Token) (y : Exps × List Token) : Type 0 where
  pub later : List Token
  pub reads : ReadsArgs text y.0 ts later
  pub closes : IsSign signs.CloseParen later y.1
  pub low : heights y.0 ≤ d

-- an expression and the closing parenthesis
pub record ParsedClosed (text : Spelling) (d : ℕ) (ts : List Token) (x : Exp × List Token) : Type 0 where
  pub later : List Token
  pub reads : Reads text x.0 ts later
  pub closes : IsSign signs.CloseParen later x.1
  pub low : height x.0 ≤ d

-- an expression in parentheses
pub record ParsedCondition (text : Spelling) (d : ℕ) (ts : List Token) (x : Exp × List Token) : Type 0 where
  pub inner : List Token
  pub opens : IsSign signs.OpenParen ts inner
  pub closed : ParsedClosed text d inner x

module _ (text : Spelling) (sub : Sub) (d : ℕ) (h : IsSound text sub d) where
  items_sound : (ts a : List Token) (e : Exp) → Parsed text d 5 ts (e, a) → Holds (items_after sub e a) (ParsedArgs text d ts)
  unfolding items_after Reads height
  items_sound ts a e g = bind_holds (all_sound (comma_item text sub d h) a) (λ y m.
      let l = more_of_items text sub d h y.0 a y.1 m in
      some_holds _ _ (record { reads = (a, g.reads, l.0); low = omega (arith, g.low, l.1) }))

  pub args_sound : (ts : List Token) → Holds (args_at sub ts) (ParsedArgs text d ts)
  unfolding args_at Reads height
  args_sound ts =
      choose_holds (after_sign_sound signs.CloseParen ts)
      (bind_holds (h 5 ts) (λ x g. items_sound ts x.1 x.0 g))
      (λ a c. some_holds _ _ (record { reads = refl; low = omega arith }))

  pub call_sound : (ts : List Token) → Holds (call_at sub ts) (ParsedCall text d ts)
  unfolding call_at
  call_sound ts = bind_holds (args_sound ts) (λ y m. bind_holds (after_sign_sound signs.CloseParen y.1) (λ r c.
      some_holds _ _ (record { later = y.1; reads = m.reads; closes = c; low = m.low })))

  pub closed_sound : (ts : List Token) → Holds (closed_at sub ts) (ParsedClosed text d ts)
  unfolding closed_at
  closed_sound ts = bind_holds (h 5 ts) (λ x g. bind_holds (after_sign_sound signs.CloseParen x.1) (λ r c.
      some_holds _ _ (record { later = x.1; reads = g.reads; closes = c; low = g.low })))

  pub condition_sound : (ts : List Token) → Holds (condition_at sub ts) (ParsedCondition text d ts)
  unfolding condition_at
  condition_sound ts = bind_holds (after_sign_sound signs.OpenParen ts) (λ a o. weaker (closed_sound a) (λ x g. record { inner = a; opens = o; closed = g }))

  named_sound : (ts0 : List Token) (n : Ident) (ts : List Token) → AtName text n ts0 ts → Holds (named_at sub d n ts) (ParsedTight text (suc d) ts0)
  unfolding named_at Reads height
  named_sound ts0 n ts at =
      choose_holds (after_sign_sound signs.OpenParen ts)
      (some_holds _ _ (record { reads = at; low = omega arith; postfix = tt }))
      (λ a o. guard_holds (λ t. bind_holds (call_sound a) (λ y m.
      let some : 1 ≤ d = leb-true _ _ t in
      some_holds _ _ (record { reads = (ts, a, m.later, at, o, m.reads, m.closes); low = omega (arith, m.low); postfix = tt }))))

  paren_sound : (ts0 : List Token) (p : Place) (ts : List Token) → At p (kinds.Sign signs.OpenParen) ts0 ts
      → Holds (paren_at sub p ts) (ParsedTight text (suc d) ts0)
  unfolding paren_at Reads height
  paren_sound ts0 p ts at = bind_holds (closed_sound ts) (λ x g.
      some_holds _ _ (record { reads = (ts, g.later, at, g.reads, g.closes); low = omega (arith, g.low); postfix = tt }))

  def_sound : (ts0 : List Token) (p : Place) (ts : List Token) → At p (kinds.Word words.Def) ts0 ts → Holds (def_at sub p ts) (ParsedTight text (suc d) ts0)
  unfolding def_at Reads height
  def_sound ts0 p ts at = bind_holds (condition_sound ts) (λ x g.
      some_holds _ _ (record {
        reads = (ts, g.inner, g.closed.later, at, g.opens, g.closed.reads, g.closed.closes);
        low = omega
            (arith, g.closed.low);
        postfix = tt;
      }))

  convert_sound : (ts0 : List Token) (p : Place) (b : BasicType) (ts : List Token) → Converts b → At p (kinds.Word (basic_word b)) ts0 ts
      → Holds (convert_at sub p b ts) (ParsedTight text (suc d) ts0)
  unfolding convert_at Reads height
  convert_sound ts0 p b ts c at = bind_holds (condition_sound ts) (λ x g.
      some_holds _ _ (record {
        reads = (ts, g.inner, g.closed.later, c, at, g.opens, g.closed.reads, g.closed.closes);
        low = omega
            (arith, g.closed.low);
        postfix = tt;
      }))

  list_sound : (ts0 : List Token) (p : Place) (ts a : List Token) (e : Exp) → At p (kinds.Sign signs.OpenBrace) ts0 ts → Parsed text d 5 ts (e, a)
      → Holds (list_at sub p e a) (ParsedTight text (suc d) ts0)
  unfolding list_at Reads height
  list_sound ts0 p ts a e at g =
      bind_holds (items_sound ts a e g) (λ y m. bind_holds (after_sign_sound signs.CloseBrace y.1) (λ r c.
      some_holds _ _ (record { reads = (ts, y.1, at, m.reads, c); low = omega (arith, m.low); postfix = tt })))

  pairs_sound : (ts a b c : List Token) (k v : Exp) → Parsed text d 5 ts (k, a) → IsSign signs.Colon a b → Parsed text d 5 b (v, c)
      → Holds (pairs_after sub (k, v) c) (ParsedEntries text d ts)
  unfolding pairs_after Reads height
  pairs_sound ts a b c k v gk m gv = bind_holds (all_sound (pair_item text sub d h) c) (λ y ps.
      let l = pairs_of_items text sub d h y.0 c y.1 ps in
      some_holds _ _ (record { reads = (a, b, c, gk.reads, m, gv.reads, l.0); low = omega (arith, gk.low, gv.low, l.1) }))

  map_sound : (ts0 : List Token) (p : Place) (ts a b c : List Token) (k v : Exp) → At p (kinds.Sign signs.OpenBrace) ts0 ts
      → Parsed text d 5 ts (k, a) → IsSign signs.Colon a b → Parsed text d 5 b (v, c) → Holds (map_at sub p (k, v) c) (ParsedTight text (suc d) ts0)
  unfolding map_at Reads height
  map_sound ts0 p ts a b c k v at gk m gv =
      bind_holds (pairs_sound ts a b c k v gk m gv) (λ y ps. bind_holds (after_sign_sound signs.CloseBrace y.1) (λ r cl.
      some_holds _ _ (record { reads = (ts, y.1, at, ps.reads, cl); low = omega (arith, ps.low); postfix = tt })))

  composite_sound : (ts0 : List Token) (p : Place) (ts : List Token) → At p (kinds.Sign signs.OpenBrace) ts0 ts
      → Holds (composite_at sub p ts) (ParsedTight text (suc d) ts0)
  unfolding composite_at Reads height
  composite_sound ts0 p ts at =
      choose_holds (after_sign_sound signs.CloseBrace ts)
      (choose_holds (after_sign_sound signs.Colon ts)
      (bind_holds (h 5 ts) (λ x g. choose_holds (after_sign_sound signs.Colon x.1)
      (list_sound ts0 p ts x.1 x.0 at g)
      (λ a m. bind_holds (h 5 a) (λ v gv. map_sound ts0 p ts x.1 a v.1 x.0 v.0 at g m gv))))
      (λ a m. bind_holds (after_sign_sound signs.CloseBrace a) (λ r c. some_holds _ _ (record { reads = (ts, a, at, m, c); low = omega arith; postfix = tt }))))
      (λ r c. some_holds _ _ (record { reads = (ts, ts, at, refl, c); low = omega arith; postfix = tt }))

  bracketed_sound : (ts0 : List Token) (p : Place) (s : Sign) (ts : List Token) → At p (kinds.Sign s) ts0 ts
      → Holds (bracketed sub p s ts) (ParsedTight text (suc d) ts0)
  bracketed_sound ts0 p signs.OpenParen ts at = paren_sound ts0 p ts at
  bracketed_sound ts0 p signs.OpenBrace ts at = composite_sound ts0 p ts at
  bracketed_sound ts0 p _ ts at = none_holds _

  worded_sound : (t : Token) (w : Word) (ts : List Token) → t.kind ≡ kinds.Word w → Holds (worded sub t.place w ts) (ParsedTight text (suc d) (t ∷ ts))
  unfolding Reads height
  worded_sound t w ts e = go w e
    where
      at : (v : Word) → t.kind ≡ kinds.Word v → At t.place (kinds.Word v) (t ∷ ts) ts
      at v e = record { start = t.start; len = t.len; is = ap (λ (k : Kind). token k t.place t.start t.len ∷ ts) e }

      go : (v : Word) → t.kind ≡ kinds.Word v → Holds (worded sub t.place v ts) (ParsedTight text (suc d) (t ∷ ts))
      go words.True e = some_holds _ _ (record { reads = record { here = t; place = refl; means = e; is = refl }; low = omega arith; postfix = tt })
      go words.False e = some_holds _ _ (record { reads = record { here = t; place = refl; means = e; is = refl }; low = omega arith; postfix = tt })
      go words.Def e = def_sound (t ∷ ts) t.place ts (at words.Def e)
      go words.Int e = convert_sound (t ∷ ts) t.place _ ts tt (at words.Int e)
      go words.String e = convert_sound (t ∷ ts) t.place _ ts tt (at words.String e)
      go words.Bytes e = convert_sound (t ∷ ts) t.place _ ts tt (at words.Bytes e)
      go words.Time e = convert_sound (t ∷ ts) t.place _ ts tt (at words.Time e)
      go _ e = none_holds _

  pub primary_sound : (t : Token) (ts : List Token) → Holds (primary_here text sub d t t.kind ts) (ParsedTight text (suc d) (t ∷ ts))
  unfolding Reads height
  primary_sound t ts = go t.kind refl
    where
      at : (k : Kind) → t.kind ≡ k → At t.place k (t ∷ ts) ts
      at k e = record { start = t.start; len = t.len; is = ap (λ (k : Kind). token k t.place t.start t.len ∷ ts) e }

      go : (k : Kind) → t.kind ≡ k → Holds (primary_here text sub d t k ts) (ParsedTight text (suc d) (t ∷ ts))
      go (kinds.Number n) e = some_holds _ _ (record { reads = record { here = t; place = refl; means = e; is = refl }; low = omega arith; postfix = tt })
      go (kinds.Character c) e = some_holds _ _ (record { reads = record { here = t; place = refl; means = e; is = refl }; low = omega arith; postfix = tt })
      go kinds.Str e = bind_holds (decoded_sound quoteds.Str (text t)) (λ v q.
          some_holds _ _ (record { reads = record { here = t; place = refl; means = (e, q); is = refl }; low = omega arith; postfix = tt }))
      go kinds.Bytes e = bind_holds (decoded_sound quoteds.Bytes (text t)) (λ v q.
          some_holds _ _ (record { reads = record { here = t; place = refl; means = (e, q); is = refl }; low = omega arith; postfix = tt }))
      go kinds.Name e = named_sound (t ∷ ts) (ident_of text t) ts (here_is_name text t ts e)
      go (kinds.Sign s) e = bracketed_sound (t ∷ ts) t.place s ts (at (kinds.Sign s) e)
      go (kinds.Word w) e = worded_sound t w ts e

  -- ---- indices, slices and fields

  bracket_sound : (e : Exp) (ts0 ts a : List Token) → ParsedTight text d ts0 (e, ts) → IsSign signs.OpenBracket ts a
      → Holds (bracket_at sub e a) (ParsedTight text (suc d) ts0)
  unfolding bracket_at Reads height
  bracket_sound e ts0 ts a g o =
      bind_holds (h 5 a) (λ i gi. choose_holds (after_sign_sound signs.Colon i.1)
      (bind_holds (after_sign_sound signs.CloseBracket i.1) (λ r c.
      some_holds _ _ (record { reads = (ts, a, i.1, refl, g.postfix, g.reads, o, gi.reads, c); low = omega (arith, g.low, gi.low); postfix = tt })))
      (λ b m. bind_holds (h 5 b) (λ j gj. bind_holds (after_sign_sound signs.CloseBracket j.1) (λ r c.
      some_holds _ _ (record {
        reads = (ts, a, i.1, b, j.1, refl, g.postfix, g.reads, o, gi.reads, m, gj.reads, c);
        low = omega
            (arith, g.low, gi.low, gj.low);
        postfix = tt;
      })))))

  field_sound : (e : Exp) (ts0 ts a : List Token) → height e ≤ d → 0 < height e → ParsedTight text d ts0 (e, ts) → IsSign signs.Dot ts a
      → Holds (field_at text e a) (ParsedTight text (suc d) ts0)
  unfolding field_at Reads height
  field_sound e ts0 ts a low some g o = bind_holds (name_sound text a) (λ n at.
      some_holds _ _ (record { reads = (ts, a, refl, g.postfix, g.reads, o, at); low = omega arith; postfix = tt }))

pub height_positive : (e : Exp) → 0 < height e
unfolding height
height_positive (call n es) = omega arith
height_positive (list p es) = omega arith
height_positive (mapping p ps) = omega arith
height_positive _ = omega arith

pub tight_of : (e : Exp) → IsPostfix e → loose e ≤ 0
tight_of (unary p o e) h = absurd h
tight_of (binary p o l r) h = absurd h
tight_of _ h = omega arith

module _ (text : Spelling) (sub : Sub) (d : ℕ) (h : IsSound text sub d) where
  -- a part of e, if e is not too high
  part_sound : (e : Exp) (ts0 ts : List Token) → ParsedTight text (suc d) ts0 (e, ts)
      → Holds (part_step text sub e ts) (λ r. height e ≤ d → Holds r (ParsedTight text (suc d) ts0))
  unfolding part_step
  part_sound e ts0 ts g =
      choose_holds (after_sign_sound signs.OpenBracket ts)
      (choose_holds (after_sign_sound signs.Dot ts) (none_holds _)
      (λ a o. some_holds _ _
      (λ low. field_sound text sub d h e ts0 ts a low (height_positive e) (record { reads = g.reads; low = low; postfix = g.postfix }) o)))
      (λ a o. some_holds _ _ (λ low. bracket_sound text sub d h e ts0 ts a (record { reads = g.reads; low = low; postfix = g.postfix }) o))

  pub tail_sound : (k : ℕ) (e : Exp) (ts0 ts : List Token) → ParsedTight text (suc d) ts0 (e, ts)
      → Holds (tail_at text sub d k e ts) (ParsedTight text (suc d) ts0)
  unfolding tail_at
  tail_sound zero e ts0 ts g = some_holds _ _ g
  tail_sound (suc k) e ts0 ts g =
      choose_holds (part_sound e ts0 ts g) (some_holds _ _ g)
      (λ r p. guard_holds (λ t. bind_holds (p (leb-true _ _ t)) (λ x gx. tail_sound k x.0 ts0 x.1 gx)))

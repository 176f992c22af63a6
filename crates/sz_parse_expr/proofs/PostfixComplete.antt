-- An expression with no operator at its front is read as it is spelled.
use Rattle.std.proofs.Common.{◌≡◌, ℕ, zero, suc, ◌+◌, ◌≤◌, ◌<◌, true, false, List, [], ◌∷◌, Some, None}
use Rattle.std.proofs.Common.{refl, sym, ap, ◌∙◌, arith}
use denote.Enum.Bare.{sameb}
use Rattle.std.proofs.lemmas.Bool.{le-leb}
use Rattle.sz_types.specs.declared.place.Place.{Place}
use Rattle.sz_lex.specs.declared.token.Token.{Token}
use Rattle.sz_lex.specs.declared.token.Kind.{Kind}
use Rattle.sz_lex.specs.declared.token.Kind.TheVariants as kinds
use Rattle.sz_lex.specs.declared.sign.Sign.{Sign}
use Rattle.sz_lex.specs.declared.sign.Sign.TheVariants as signs
use Rattle.sz_lex.specs.declared.escape.Quoted.TheVariants as quoteds
use Rattle.sz_lex.specs.contracts.sign.Sign.{the_type as sign_type}
use Rattle.sz_tree.specs.declared.types.BasicType.{BasicType}
use Rattle.sz_tree.specs.declared.types.BasicType.TheVariants as basics
use Rattle.sz_tree.specs.Names.{Ident}
use Rattle.sz_tree.specs.Expressions.{Lit, number, string, bytes, character, boolean, Exp, literal, named, call, def, paren, convert, list}
use Rattle.sz_tree.specs.Expressions.{mapping, index, slice, field, unary, binary, Exps, end, more, Pairs, no_pairs, pair, exps_of}
use Rattle.sz_tree.specs.Expressions.{pairs_of, place_of, loose, height, heights, pair_heights, IsPostfix}
use Rattle.sz_parse_expr.specs.Tokens.{Spelling, token, At, IsSign, AtName, IsLiteral, Many}
use Rattle.sz_parse_expr.specs.Expressions.{basic_word, Converts, Reads, ReadsArgs, ReadsMore, ReadsEntries, ReadsPairs}
use Rattle.sz_parse_expr.specs.Reading.{Read, after_sign, ident_of, all_at}
use Rattle.sz_parse_expr.specs.ReadingExpressions.{Sub}
use Rattle.sz_parse_expr.specs.ReadingExpressions.{comma_step, pair_at, pair_step, items_after, pairs_after, args_at, call_at, named_at}
use Rattle.sz_parse_expr.specs.ReadingExpressions.{closed_at, condition_at, paren_at, def_at, convert_at, list_at, map_at, composite_at}
use Rattle.sz_parse_expr.specs.ReadingExpressions.{primary_here, bracket_at, field_at, part_step, tail_at}
use Rattle.sz_parse_expr.specs.ReadingExpressions.{postfix_at}
use Rattle.sz_parse_expr.proofs.Steps.{bind_step, choose_some, choose_none, guard_step}
use Rattle.sz_parse_expr.proofs.Items.{IsFound, all_complete, follows}
use Rattle.sz_parse_expr.proofs.TokenLemmas.{after_sign_is, other_sign, name_is, decoded_is}
use Rattle.sz_parse_expr.proofs.PostfixSound.{IsSound, CommaItem, PairItem, comma_item, pair_item}
use Rattle.sz_parse_expr.proofs.OperatorLemmas.{sign_grip, grip, grip_is, loose_most, reads_starts, no_start}

-- ---- whole expressions and lists of them

abbrev pub IsComplete : Spelling → Sub → ℕ → Type 0
IsComplete text sub d = (l : ℕ) (e : Exp) (ts rest : List Token) → Reads text e ts rest → height e ≤ d → loose e ≤ l
    → l < grip rest → sub l ts ≡ Some (e, rest)

pub ends_at : (s : Sign) (ts rest : List Token) → sign_grip s ≡ 6 → IsSign s ts rest → 5 < grip ts
ends_at s ts rest e h = omega (arith, grip_is s ts rest h, e)

-- lists of expressions, and of pairs
abbrev list_of : Exps → List Exp
list_of end = []
list_of (more e es) = e ∷ list_of es

abbrev pair_list : Pairs → List (Exp × Exp)
pair_list no_pairs = []
pair_list (pair k v ps) = (k, v) ∷ pair_list ps

exps_list : (es : Exps) → exps_of (list_of es) ≡ es
exps_list end = refl
exps_list (more e es) = ap (more e) (exps_list es)

pairs_list : (ps : Pairs) → pairs_of (pair_list ps) ≡ ps
pairs_list no_pairs = refl
pairs_list (pair k v ps) = ap (pair k v) (pairs_list ps)

module _ (text : Spelling) (sub : Sub) (d : ℕ) (s : IsSound text sub d) (h : IsComplete text sub d) where
  -- a whole expression, before a token that ends it
  pub whole : (e : Exp) (ts rest : List Token) → Reads text e ts rest → height e ≤ d → 5 < grip rest
      → sub 5 ts ≡ Some (e, rest)
  whole e ts rest re low g = h 5 e ts rest re low (loose_most e) g

  comma_found : IsFound (comma_step sub) (CommaItem text d) (λ ts. 5 < grip ts)
  unfolding comma_step
  comma_found = record {
    found = λ x ts rest i g. choose_some _ _ _ _ _ (after_sign_is signs.Comma ts i.later i.comma)
        (ap (λ (r : Read Exp). Some r) (whole x i.later rest i.reads i.low g));
    begins = λ x ts rest i. ends_at signs.Comma ts i.later refl i.comma;
  }

  pair_found : IsFound (pair_step sub) (PairItem text d) (λ ts. 5 < grip ts)
  unfolding pair_step pair_at
  pair_found = record {
    found = λ x ts rest i g. choose_some _ _ _ _ _ (after_sign_is signs.Comma ts i.a i.comma)
        (ap (λ (r : Read (Exp × Exp)). Some r)
        (bind_step _ _ _ _ (whole x.0 i.a i.b i.key i.low (ends_at signs.Colon i.b i.c refl i.colon))
        (bind_step _ _ _ _ (after_sign_is signs.Colon i.b i.c i.colon)
        (bind_step _ _ _ _ (whole x.1 i.c rest i.value i.low_value g) refl))));
    begins = λ x ts rest i. ends_at signs.Comma ts i.a refl i.comma;
  }

  comma_items : (es : Exps) (ts rest : List Token) → ReadsMore text es ts rest → heights es ≤ d
      → Many (CommaItem text d) (list_of es) ts rest
  unfolding Many Reads height
  comma_items end ts rest re low = re
  comma_items (more e es) ts rest re low = (
    re.1,
    record { later = re.0; comma = re.2; reads = re.3; low = omega arith },
    comma_items es re.1 rest re.4 (omega arith),
  )

  pair_items : (ps : Pairs) (ts rest : List Token) → ReadsPairs text ps ts rest → pair_heights ps ≤ d
      → Many (PairItem text d) (pair_list ps) ts rest
  unfolding Many Reads height
  pair_items no_pairs ts rest re low = re
  pair_items (pair k v ps) ts rest re low = (
    re.3,
    record {
      a = re.0;
      b = re.1;
      c = re.2;
      comma = re.4;
      key = re.5;
      colon = re.6;
      value = re.7;
      low = omega arith;
      low_value = omega arith;
    },
    pair_items ps re.3 rest re.8 (omega arith),
  )

  no_comma : (r : Sign) (ts rest : List Token) → IsSign r ts rest → sameb sign_type r signs.Comma ≡ false
      → comma_step sub ts ≡ None
  unfolding comma_step
  no_comma r ts rest c e = choose_none _ _ _ _ (other_sign signs.Comma r ts rest c e) refl

  no_pair : (r : Sign) (ts rest : List Token) → IsSign r ts rest → sameb sign_type r signs.Comma ≡ false
      → pair_step sub ts ≡ None
  unfolding pair_step
  no_pair r ts rest c e = choose_none _ _ _ _ (other_sign signs.Comma r ts rest c e) refl

  more_complete : (r : Sign) (es : Exps) (ts rest after : List Token) → ReadsMore text es ts rest → heights es ≤ d
      → IsSign r rest after → sign_grip r ≡ 6 → sameb sign_type r signs.Comma ≡ false
      → (all_at (comma_step sub) ts ≡ Some (list_of es, rest)) × (5 < grip ts)
  more_complete r es ts rest after re low c six other =
      let m = comma_items es ts rest re low in
      let ends = ends_at r rest after six c in (
        all_complete (comma_item text sub d s) comma_found (list_of es) ts rest m ends (no_comma r rest after c other),
        follows comma_found (list_of es) ts rest m ends,
      )

  pairs_complete : (r : Sign) (ps : Pairs) (ts rest after : List Token) → ReadsPairs text ps ts rest
      → pair_heights ps ≤ d → IsSign r rest after → sign_grip r ≡ 6 → sameb sign_type r signs.Comma ≡ false
      → (all_at (pair_step sub) ts ≡ Some (pair_list ps, rest)) × (5 < grip ts)
  pairs_complete r ps ts rest after re low c six other =
      let m = pair_items ps ts rest re low in
      let ends = ends_at r rest after six c in (
        all_complete (pair_item text sub d s) pair_found (pair_list ps) ts rest m ends (no_pair r rest after c other),
        follows pair_found (pair_list ps) ts rest m ends,
      )

  args_complete : (es : Exps) (ts rest after : List Token) → ReadsArgs text es ts rest → heights es ≤ d
      → IsSign signs.CloseParen rest after → args_at sub ts ≡ Some (list_of es, rest)
  unfolding args_at items_after Reads height
  args_complete end ts rest after re low c =
      rw re (choose_some _ _ _ _ _ (after_sign_is signs.CloseParen rest after c) refl)
  args_complete (more e es) ts rest after re low c =
      let m = more_complete signs.CloseParen es re.0 rest after re.2 (omega arith) c refl refl in
      choose_none _ _ _ _ (no_start signs.CloseParen ts refl (reads_starts text e ts re.0 re.1))
      (bind_step _ _ _ _ (whole e ts re.0 re.1 (omega arith) m.1) (bind_step _ _ _ _ m.0 refl))

  pub call_complete : (es : Exps) (b c rest : List Token) → ReadsArgs text es b c → heights es ≤ d
      → IsSign signs.CloseParen c rest → call_at sub b ≡ Some (es, rest)
  unfolding call_at
  call_complete es b c rest re low cl =
      bind_step _ _ _ _ (args_complete es b c rest re low cl)
      (bind_step _ _ _ _ (after_sign_is signs.CloseParen c rest cl)
      (ap (λ (es : Exps). Some (es, rest)) (exps_list es)))

  pub closed_complete : (e : Exp) (a b rest : List Token) → Reads text e a b → height e ≤ d
      → IsSign signs.CloseParen b rest → closed_at sub a ≡ Some (e, rest)
  unfolding closed_at
  closed_complete e a b rest re low c =
      bind_step _ _ _ _ (whole e a b re low (ends_at signs.CloseParen b rest refl c))
      (bind_step _ _ _ _ (after_sign_is signs.CloseParen b rest c) refl)

  pub condition_complete : (e : Exp) (ts a b rest : List Token) → IsSign signs.OpenParen ts a
      → Reads text e a b → height e ≤ d → IsSign signs.CloseParen b rest → condition_at sub ts ≡ Some (e, rest)
  unfolding condition_at
  condition_complete e ts a b rest o re low c =
      bind_step _ _ _ _ (after_sign_is signs.OpenParen ts a o) (closed_complete e a b rest re low c)

  named_call : (n : Ident) (es : Exps) (a b c rest : List Token) → 1 ≤ d → IsSign signs.OpenParen a b
      → ReadsArgs text es b c → heights es ≤ d
      → IsSign signs.CloseParen c rest → named_at sub d n a ≡ Some (call n es, rest)
  unfolding named_at
  named_call n es a b c rest some o re low cl =
      choose_some _ _ _ _ _ (after_sign_is signs.OpenParen a b o)
      (guard_step _ _ _ (le-leb _ _ some) (bind_step _ _ _ _ (call_complete es b c rest re low cl) refl))

  list_complete : (p : Place) (e : Exp) (es : Exps) (b c rest : List Token)
      → all_at (comma_step sub) b ≡ Some (list_of es, c)
      → IsSign signs.CloseBrace c rest → list_at sub p e b ≡ Some (list p (more e es), rest)
  unfolding list_at items_after
  list_complete p e es b c rest m cl =
      bind_step _ _ _ _ (bind_step _ _ _ _ m refl)
      (bind_step _ _ _ _ (after_sign_is signs.CloseBrace c rest cl)
      (ap (λ (es : Exps). Some (list p (more e es), rest)) (exps_list es)))

  map_complete : (p : Place) (k v : Exp) (ps : Pairs) (f g rest : List Token)
      → all_at (pair_step sub) f ≡ Some (pair_list ps, g)
      → IsSign signs.CloseBrace g rest → map_at sub p (k, v) f ≡ Some (mapping p (pair k v ps), rest)
  unfolding map_at pairs_after
  map_complete p k v ps f g rest m cl =
      bind_step _ _ _ _ (bind_step _ _ _ _ m refl)
      (bind_step _ _ _ _ (after_sign_is signs.CloseBrace g rest cl)
      (ap (λ (ps : Pairs). Some (mapping p (pair k v ps), rest)) (pairs_list ps)))

  no_colon : (es : Exps) (b c rest : List Token) → ReadsMore text es b c → IsSign signs.CloseBrace c rest
      → after_sign signs.Colon b ≡ None
  unfolding Reads
  no_colon end b c rest rm cl = rw rm (other_sign signs.Colon signs.CloseBrace c rest cl refl)
  no_colon (more e es) b c rest rm cl = other_sign signs.Colon signs.Comma b _ rm.2 refl

  composite_list : (p : Place) (es : Exps) (a b rest : List Token) → ReadsArgs text es a b → heights es ≤ d
      → IsSign signs.CloseBrace b rest → composite_at sub p a ≡ Some (list p es, rest)
  unfolding composite_at Reads height
  composite_list p end a b rest re low cl =
      rw re (choose_some _ _ _ _ _ (after_sign_is signs.CloseBrace b rest cl) refl)
  composite_list p (more e es) a b rest re low cl =
      let first = reads_starts text e a re.0 re.1 in
      let m = more_complete signs.CloseBrace es re.0 b rest re.2 (omega arith) cl refl refl in
      choose_none _ _ _ _ (no_start signs.CloseBrace a refl first)
      (choose_none _ _ _ _ (no_start signs.Colon a refl first)
      (bind_step _ _ _ _ (whole e a re.0 re.1 (omega arith) m.1)
      (choose_none _ _ _ _ (no_colon es re.0 b rest re.2 cl) (list_complete p e es re.0 b rest m.0 cl))))

  composite_map : (p : Place) (ps : Pairs) (a b rest : List Token) → ReadsEntries text ps a b → pair_heights ps ≤ d
      → IsSign signs.CloseBrace b rest → composite_at sub p a ≡ Some (mapping p ps, rest)
  unfolding composite_at Reads height
  composite_map p no_pairs a b rest re low cl =
      choose_none _ _ _ _ (other_sign signs.CloseBrace signs.Colon a b re refl)
      (choose_some _ _ _ _ _ (after_sign_is signs.Colon a b re)
      (bind_step _ _ _ _ (after_sign_is signs.CloseBrace b rest cl) refl))
  composite_map p (pair k v ps) a b rest re low cl =
      let first = reads_starts text k a re.0 re.3 in
      let m = pairs_complete signs.CloseBrace ps re.2 b rest re.6 (omega arith) cl refl refl in
      choose_none _ _ _ _ (no_start signs.CloseBrace a refl first)
      (choose_none _ _ _ _ (no_start signs.Colon a refl first)
      (bind_step _ _ _ _ (whole k a re.0 re.3 (omega arith) (ends_at signs.Colon re.0 re.1 refl re.4))
      (choose_some _ _ _ _ _ (after_sign_is signs.Colon re.0 re.1 re.4)
      (bind_step _ _ _ _ (whole v re.1 re.2 re.5 (omega arith) m.1)
      (map_complete p k v ps re.2 b rest m.0 cl)))))

-- ---- what an index may stand after

-- the expression and what follows, at some number of turns that is enough for what is left
pub record Reached (text : Spelling) (sub : Sub) (d : ℕ) (ts rest : List Token) (e : Exp) : Type 0 where
  pub turns : ℕ
  pub enough : suc d ≤ turns + height e
  pub reached : postfix_at text sub d ts ≡ tail_at text sub d turns e rest

-- a primary that is read at once
at_once : (text : Spelling) (sub : Sub) (d : ℕ) (t : Token) (ts a rest : List Token) (e : Exp) → ts ≡ t ∷ a
    → primary_here text sub d t t.kind a ≡ Some (e, rest) → Reached text sub d ts rest e
unfolding postfix_at
at_once text sub d t ts a rest e at h = record {
  turns = suc d;
  enough = omega arith;
  reached = rw at (bind_step _ _ _ _ h refl);
}

-- one part more
one_more : (text : Spelling) (sub : Sub) (d : ℕ) (ts a rest : List Token) (e x : Exp) → Reached text sub d ts a e
    → height e ≤ d → height e < height x
    → part_step text sub e a ≡ Some (Some (x, rest)) → Reached text sub d ts rest x
unfolding tail_at
one_more text sub d ts a rest e x r low higher h = go r.turns r.enough r.reached
  where
    go : (k : ℕ) → suc d ≤ k + height e → postfix_at text sub d ts ≡ tail_at text sub d k e a
        → Reached text sub d ts rest x
    go zero enough reached = absurd (omega arith)
    go (suc k) enough reached =
        record {
          turns = k;
          enough = omega arith;
          reached = reached
              ∙ choose_some _ _ _ _ _ h (guard_step _ _ _ (le-leb _ _ low) (bind_step _ _ _ _ refl refl));
        }

named_alone : (sub : Sub) (d : ℕ) (n : Ident) (rest : List Token) → after_sign signs.OpenParen rest ≡ None
    → named_at sub d n rest ≡ Some (named n, rest)
unfolding named_at
named_alone sub d n rest none = choose_none _ _ _ _ none refl

-- a name's token gives the name
same_ident : (text : Spelling) (n : Ident) (ts rest : List Token) → (at : AtName text n ts rest)
    → ident_of text (token kinds.Name n.place at.start at.len) ≡ n
same_ident text n ts rest at = ap (λ (t : List ℕ). record { place = n.place; text = t }) (sym at.spelled)

literal_is : (text : Spelling) (sub : Sub) (d : ℕ) (l : Lit) (t : Token) (rest : List Token) → IsLiteral text l t
    → primary_here text sub d t t.kind rest ≡ Some (literal t.place l, rest)
literal_is text sub d (number n) t rest h = rw h refl
literal_is text sub d (string v) t rest h =
    ap (λ (k : Kind). primary_here text sub d t k rest) h.0
    ∙ bind_step _ _ _ _ (decoded_is quoteds.Str (text t) v h.1) refl
literal_is text sub d (bytes v) t rest h =
    ap (λ (k : Kind). primary_here text sub d t k rest) h.0
    ∙ bind_step _ _ _ _ (decoded_is quoteds.Bytes (text t) v h.1) refl
literal_is text sub d (character c) t rest h = rw h refl
literal_is text sub d (boolean true) t rest h = rw h refl
literal_is text sub d (boolean false) t rest h = rw h refl

module _ (text : Spelling) (sub : Sub) (d : ℕ) (s : IsSound text sub d) (h : IsComplete text sub d) where
  bracket_index : (e i : Exp) (a b c rest : List Token) → IsSign signs.OpenBracket a b → Reads text i b c → height i ≤ d
      → IsSign signs.CloseBracket c rest → part_step text sub e a ≡ Some (Some (index (place_of e) e i, rest))
  unfolding part_step bracket_at
  bracket_index e i a b c rest o re low cl =
      choose_some _ _ _ _ _ (after_sign_is signs.OpenBracket a b o) (ap (λ (r : Read Exp). Some r)
      (bind_step _ _ _ _ (whole text sub d s h i b c re low (ends_at signs.CloseBracket c rest refl cl))
      (choose_none _ _ _ _ (other_sign signs.Colon signs.CloseBracket c rest cl refl)
      (bind_step _ _ _ _ (after_sign_is signs.CloseBracket c rest cl) refl))))

  bracket_slice : (e i j : Exp) (a b c f g rest : List Token) → IsSign signs.OpenBracket a b
      → Reads text i b c → height i ≤ d
      → IsSign signs.Colon c f → Reads text j f g → height j ≤ d → IsSign signs.CloseBracket g rest
      → part_step text sub e a ≡ Some (Some (slice (place_of e) e i j, rest))
  unfolding part_step bracket_at
  bracket_slice e i j a b c f g rest o re low m rj lowj cl =
      choose_some _ _ _ _ _ (after_sign_is signs.OpenBracket a b o) (ap (λ (r : Read Exp). Some r)
      (bind_step _ _ _ _ (whole text sub d s h i b c re low (ends_at signs.Colon c f refl m))
      (choose_some _ _ _ _ _ (after_sign_is signs.Colon c f m)
      (bind_step _ _ _ _ (whole text sub d s h j f g rj lowj (ends_at signs.CloseBracket g rest refl cl))
      (bind_step _ _ _ _ (after_sign_is signs.CloseBracket g rest cl) refl)))))

  dot_field : (e : Exp) (n : Ident) (a b rest : List Token) → IsSign signs.Dot a b → AtName text n b rest
      → part_step text sub e a ≡ Some (Some (field (place_of e) e n, rest))
  unfolding part_step field_at
  dot_field e n a b rest o at =
      choose_none _ _ _ _ (other_sign signs.OpenBracket signs.Dot a b o refl)
      (choose_some _ _ _ _ _ (after_sign_is signs.Dot a b o)
      (ap (λ (r : Read Exp). Some r) (bind_step _ _ _ _ (name_is text n b rest at) refl)))

  convert_is : (p : Place) (t : BasicType) (e : Exp) (ts a b c rest : List Token) → Converts t
      → At p (kinds.Word (basic_word t)) ts a → IsSign signs.OpenParen a b → Reads text e b c → height e ≤ d
      → IsSign signs.CloseParen c rest → Reached text sub d ts rest (convert p t e)
  unfolding convert_at
  convert_is p basics.Bool e ts a b c rest con at o re low cl = absurd con
  convert_is p basics.Int e ts a b c rest con at o re low cl =
      at_once text sub d _ ts a rest _ at.is
      (bind_step _ _ _ _ (condition_complete text sub d s h e a b c rest o re low cl) refl)
  convert_is p basics.String e ts a b c rest con at o re low cl =
      at_once text sub d _ ts a rest _ at.is
      (bind_step _ _ _ _ (condition_complete text sub d s h e a b c rest o re low cl) refl)
  convert_is p basics.Bytes e ts a b c rest con at o re low cl =
      at_once text sub d _ ts a rest _ at.is
      (bind_step _ _ _ _ (condition_complete text sub d s h e a b c rest o re low cl) refl)
  convert_is p basics.Time e ts a b c rest con at o re low cl =
      at_once text sub d _ ts a rest _ at.is
      (bind_step _ _ _ _ (condition_complete text sub d s h e a b c rest o re low cl) refl)

  -- an expression that an index may stand after is reached, before what can't make a call of a name
  pub postfix_complete : (e : Exp) (ts rest : List Token) → IsPostfix e → Reads text e ts rest → height e ≤ suc d
      → after_sign signs.OpenParen rest ≡ None → Reached text sub d ts rest e
  unfolding Reads height paren_at def_at
  postfix_complete (literal p l) ts rest post re low none =
      rw (← re.place) (at_once text sub d re.here ts rest rest _ re.is (literal_is text sub d l re.here rest re.means))
  postfix_complete (named n) ts rest post re low none =
      at_once text sub d _ ts rest rest _ re.is
      (ap (λ (m : Ident). named_at sub d m rest) (same_ident text n ts rest re) ∙ named_alone sub d n rest none)
  postfix_complete (call n es) ts rest post re low none =
      at_once text sub d _ ts re.0 rest _ re.3.is
      (ap (λ (m : Ident). named_at sub d m re.0) (same_ident text n ts re.0 re.3)
      ∙ named_call text sub d s h n es re.0 re.1 re.2 rest (omega arith) re.4 re.5 (omega arith) re.6)
  postfix_complete (def p e) ts rest post re low none =
      at_once text sub d _ ts re.0 rest _ re.3.is
      (bind_step _ _ _ _ (condition_complete text sub d s h e re.0 re.1 re.2 rest re.4 re.5 (omega arith) re.6) refl)
  postfix_complete (paren p e) ts rest post re low none =
      at_once text sub d _ ts re.0 rest _ re.2.is
      (bind_step _ _ _ _ (closed_complete text sub d s h e re.0 re.1 rest re.3 (omega arith) re.4) refl)
  postfix_complete (convert p t e) ts rest post re low none =
      convert_is p t e ts re.0 re.1 re.2 rest re.3 re.4 re.5 re.6 (omega arith) re.7
  postfix_complete (list p es) ts rest post re low none =
      at_once text sub d _ ts re.0 rest _ re.2.is
      (composite_list text sub d s h p es re.0 re.1 rest re.3 (omega arith) re.4)
  postfix_complete (mapping p ps) ts rest post re low none =
      at_once text sub d _ ts re.0 rest _ re.2.is
      (composite_map text sub d s h p ps re.0 re.1 rest re.3 (omega arith) re.4)
  postfix_complete (unary p o e) ts rest post re low none = absurd post
  postfix_complete (binary p o l r) ts rest post re low none = absurd post
  postfix_complete (index p e i) ts rest post re low none =
      rw re.3 (one_more text sub d ts re.0 rest e (index (place_of e) e i)
      (postfix_complete e ts re.0 re.4 re.5 (omega arith)
      (other_sign signs.OpenParen signs.OpenBracket re.0 re.1 re.6 refl))
      (omega arith) (omega arith) (bracket_index e i re.0 re.1 re.2 rest re.6 re.7 (omega arith) re.8))
  postfix_complete (slice p e i j) ts rest post re low none =
      rw re.5 (one_more text sub d ts re.0 rest e (slice (place_of e) e i j)
      (postfix_complete e ts re.0 re.6 re.7 (omega arith)
      (other_sign signs.OpenParen signs.OpenBracket re.0 re.1 re.8 refl))
      (omega arith) (omega arith)
      (bracket_slice e i j re.0 re.1 re.2 re.3 re.4 rest re.8 re.9 (omega arith) re.10 re.11 (omega arith) re.12))
  postfix_complete (field p e n) ts rest post re low none =
      rw re.2 (one_more text sub d ts re.0 rest e (field (place_of e) e n)
      (postfix_complete e ts re.0 re.3 re.4 (omega arith) (other_sign signs.OpenParen signs.Dot re.0 re.1 re.5 refl))
      (omega arith) (omega arith) (dot_field e n re.0 re.1 rest re.5 re.6))

-- Two spellings that agree on each token of a list spell the same expressions.
use Rattle.std.proofs.Common.{◌≡◌, ℕ, true, false, List, [], ◌∷◌, sym, subst, ◌∙◌}
use Rattle.sz_types.specs.declared.place.Place.{Place}
use Rattle.sz_lex.specs.declared.token.Token.{Token}
use Rattle.sz_lex.specs.declared.token.Kind.{Kind}
use Rattle.sz_lex.specs.declared.escape.Quoted.TheVariants as quoteds
use Rattle.sz_lex.specs.Literals.{IsQuoted}
use Rattle.sz_tree.specs.Names.{Ident}
use Rattle.sz_tree.specs.Expressions.{Lit, number, string, bytes, character, boolean}
use Rattle.sz_tree.specs.Expressions.{Exp, literal, named, call, def, paren, convert, list, mapping, index, slice, field, unary, binary}
use Rattle.sz_tree.specs.Expressions.{Exps, end, more, Pairs, no_pairs, pair}
use Rattle.sz_parse_expr.specs.Tokens.{Spelling, At, Is, AtName, IsLiteral, AtLiteral}
use Rattle.sz_parse_expr.specs.Expressions.{Reads, ReadsArgs, ReadsMore, ReadsEntries, ReadsPairs}

module _ (f g : Spelling) where
  -- they agree on each of these tokens
  abbrev pub Agree : List Token → Type 0
  Agree [] = Unit {0}
  Agree (t ∷ ts) = (f t ≡ g t) × Agree ts

  -- what the first spells here, the second spells too, and they agree on what follows
  abbrev pub Alike : {A : Type 0} → (R S : A → List Token → List Token → Type 0) → Type 0
  Alike {A} R S = (x : A) (ts rest : List Token) → R x ts rest → Agree ts → S x ts rest × Agree rest

  -- ---- one token

  later : (ts : List Token) (t : Token) (rest : List Token) → ts ≡ t ∷ rest → Agree ts → (f t ≡ g t) × Agree rest
  later ts t rest e a = subst Agree e a

  pub on_end : (ts rest : List Token) → ts ≡ rest → Agree ts → Agree rest
  on_end ts rest e a = subst Agree e a

  pub on_at : {p : Place} {k : Kind} {ts rest : List Token} → At p k ts rest → Agree ts → Agree rest
  on_at h a = (later _ _ _ h.is a).1

  pub on_is : {k : Kind} {ts rest : List Token} → Is k ts rest → Agree ts → Agree rest
  on_is h a = (later _ _ _ h.is a).1

  pub on_name : {n : Ident} {ts rest : List Token} → AtName f n ts rest → Agree ts → AtName g n ts rest × Agree rest
  on_name h a =
      let b = later _ _ _ h.is a in
      (record { start = h.start; len = h.len; is = h.is; spelled = h.spelled ∙ b.0 }, b.1)

  literal_alike : (l : Lit) (t : Token) → f t ≡ g t → IsLiteral f l t → IsLiteral g l t
  literal_alike (number n) t e h = h
  literal_alike (string v) t e h = (h.0, subst (λ (b : List ℕ). IsQuoted quoteds.Str b v) e h.1)
  literal_alike (bytes v) t e h = (h.0, subst (λ (b : List ℕ). IsQuoted quoteds.Bytes b v) e h.1)
  literal_alike (character c) t e h = h
  literal_alike (boolean true) t e h = h
  literal_alike (boolean false) t e h = h

  on_literal : {p : Place} (l : Lit) {ts rest : List Token} → AtLiteral f p l ts rest → Agree ts
      → AtLiteral g p l ts rest × Agree rest
  on_literal l h a =
      let b = later _ _ _ h.is a in
      (record { here = h.here; place = h.place; means = literal_alike l h.here b.0 h.means; is = h.is }, b.1)

  -- ---- expressions

  mutual
    unfolding Reads

    pub exp_alike : (e : Exp) (ts rest : List Token) → Reads f e ts rest → Agree ts → Reads g e ts rest × Agree rest
    exp_alike (literal p l) ts rest h a = on_literal l h a
    exp_alike (named n) ts rest h a = on_name h a
    exp_alike (call n es) ts rest h a =
        let m = on_name h.3 a in
        let x = args_alike es _ _ h.5 (on_is h.4 m.1) in
        ((h.0, h.1, h.2, m.0, h.4, x.0, h.6), on_is h.6 x.1)
    exp_alike (def p e) ts rest h a =
        let x = exp_alike e _ _ h.5 (on_is h.4 (on_at h.3 a)) in
        ((h.0, h.1, h.2, h.3, h.4, x.0, h.6), on_is h.6 x.1)
    exp_alike (paren p e) ts rest h a =
        let x = exp_alike e _ _ h.3 (on_at h.2 a) in
        ((h.0, h.1, h.2, x.0, h.4), on_is h.4 x.1)
    exp_alike (convert p t e) ts rest h a =
        let x = exp_alike e _ _ h.6 (on_is h.5 (on_at h.4 a)) in
        ((h.0, h.1, h.2, h.3, h.4, h.5, x.0, h.7), on_is h.7 x.1)
    exp_alike (list p es) ts rest h a =
        let x = args_alike es _ _ h.3 (on_at h.2 a) in
        ((h.0, h.1, h.2, x.0, h.4), on_is h.4 x.1)
    exp_alike (mapping p ps) ts rest h a =
        let x = entries_alike ps _ _ h.3 (on_at h.2 a) in
        ((h.0, h.1, h.2, x.0, h.4), on_is h.4 x.1)
    exp_alike (index p e i) ts rest h a =
        let x = exp_alike e _ _ h.5 a in
        let y = exp_alike i _ _ h.7 (on_is h.6 x.1) in
        ((h.0, h.1, h.2, h.3, h.4, x.0, h.6, y.0, h.8), on_is h.8 y.1)
    exp_alike (slice p e i j) ts rest h a =
        let x = exp_alike e _ _ h.7 a in
        let y = exp_alike i _ _ h.9 (on_is h.8 x.1) in
        let z = exp_alike j _ _ h.11 (on_is h.10 y.1) in
        ((h.0, h.1, h.2, h.3, h.4, h.5, h.6, x.0, h.8, y.0, h.10, z.0, h.12), on_is h.12 z.1)
    exp_alike (field p e n) ts rest h a =
        let x = exp_alike e _ _ h.4 a in
        let m = on_name h.6 (on_is h.5 x.1) in
        ((h.0, h.1, h.2, h.3, x.0, h.5, m.0), m.1)
    exp_alike (unary p o e) ts rest h a =
        let x = exp_alike e _ _ h.3 (on_at h.1 a) in
        ((h.0, h.1, h.2, x.0), x.1)
    exp_alike (binary p o l r) ts rest h a =
        let x = exp_alike l _ _ h.4 a in
        let y = exp_alike r _ _ h.7 (on_is h.5 x.1) in
        ((h.0, h.1, h.2, h.3, x.0, h.5, h.6, y.0), y.1)

    pub args_alike : (es : Exps) (ts rest : List Token) → ReadsArgs f es ts rest → Agree ts
        → ReadsArgs g es ts rest × Agree rest
    args_alike end ts rest h a = (h, on_end ts rest h a)
    args_alike (more e es) ts rest h a =
        let x = exp_alike e _ _ h.1 a in
        let y = more_alike es _ _ h.2 x.1 in
        ((h.0, x.0, y.0), y.1)

    more_alike : (es : Exps) (ts rest : List Token) → ReadsMore f es ts rest → Agree ts
        → ReadsMore g es ts rest × Agree rest
    more_alike end ts rest h a = (h, on_end ts rest h a)
    more_alike (more e es) ts rest h a =
        let x = exp_alike e _ _ h.3 (on_is h.2 a) in
        let y = more_alike es _ _ h.4 x.1 in
        ((h.0, h.1, h.2, x.0, y.0), y.1)

    entries_alike : (ps : Pairs) (ts rest : List Token) → ReadsEntries f ps ts rest → Agree ts
        → ReadsEntries g ps ts rest × Agree rest
    entries_alike no_pairs ts rest h a = (h, on_is h a)
    entries_alike (pair k v ps) ts rest h a =
        let x = exp_alike k _ _ h.3 a in
        let y = exp_alike v _ _ h.5 (on_is h.4 x.1) in
        let z = pairs_alike ps _ _ h.6 y.1 in
        ((h.0, h.1, h.2, x.0, h.4, y.0, z.0), z.1)

    pairs_alike : (ps : Pairs) (ts rest : List Token) → ReadsPairs f ps ts rest → Agree ts
        → ReadsPairs g ps ts rest × Agree rest
    pairs_alike no_pairs ts rest h a = (h, on_end ts rest h a)
    pairs_alike (pair k v ps) ts rest h a =
        let x = exp_alike k _ _ h.5 (on_is h.4 a) in
        let y = exp_alike v _ _ h.7 (on_is h.6 x.1) in
        let z = pairs_alike ps _ _ h.8 y.1 in
        ((h.0, h.1, h.2, h.3, h.4, x.0, h.6, y.0, z.0), z.1)

-- it is the same the other way round
pub agree_back : (f g : Spelling) (ts : List Token) → Agree f g ts → Agree g f ts
agree_back f g [] a = a
agree_back f g (t ∷ ts) a = (sym a.0, agree_back f g ts a.1)

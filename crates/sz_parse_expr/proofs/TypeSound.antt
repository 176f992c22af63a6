-- What is read as a type is spelled so.
use Rattle.std.proofs.Common.{◌≡◌, ℕ, zero, suc, ◌≤◌, ◌<◌, List, [], ◌∷◌, length, Option, Some, None, refl, ap, arith}
use Rattle.sz_types.specs.declared.place.Place.{Place}
use Rattle.sz_lex.specs.declared.token.Token.{Token}
use Rattle.sz_lex.specs.declared.token.Kind.{Kind}
use Rattle.sz_lex.specs.declared.token.Kind.TheVariants as kinds
use Rattle.sz_lex.specs.declared.sign.Sign.{Sign}
use Rattle.sz_lex.specs.declared.sign.Sign.TheVariants as signs
use Rattle.sz_lex.specs.declared.word.Word.{Word}
use Rattle.sz_lex.specs.declared.word.Word.TheVariants as words
use Rattle.sz_tree.specs.Names.{Ident}
use Rattle.sz_tree.specs.Types.{Typ, basic, type_name, array, map_type, tuple, proto, Params, no_params, param, Fields, no_fields}
use Rattle.sz_tree.specs.Types.{proto_field, FieldForm, params_of, fields_of, type_height, param_heights, field_heights}
use Rattle.sz_tree.specs.Statements.{ElemForm}
use Rattle.sz_parse_expr.specs.Tokens.{Spelling, token, At, Is, IsSign, AtName, Many}
use Rattle.sz_parse_expr.specs.Types.{ReadsLabel, ReadsName, ReadsType, ReadsParams, ReadsMoreParams, ReadsFields, ReadsMoreFields}
use Rattle.sz_parse_expr.specs.Reading.{name_at}
use Rattle.sz_parse_expr.specs.ReadingTypes.{SubType, number_here, number_at, label_at, maybe_name_at, elem_at, param_at, param_step}
use Rattle.sz_parse_expr.specs.ReadingTypes.{params_after, params_at, proto_field_at, proto_field_step, proto_fields_after, proto_fields_at}
use Rattle.sz_parse_expr.specs.ReadingTypes.{array_at, map_type_at, tuple_at, proto_at, type_worded, type_bracketed, type_here, type_step}
use Rattle.sz_parse_expr.specs.ReadingTypes.{type_at}
use Rattle.sz_parse_expr.proofs.Holds.{Holds, some_holds, none_holds, bind_holds, choose_holds, chosen_holds, weaker}
use Rattle.sz_parse_expr.proofs.Items.{IsItem, all_sound}
use Rattle.sz_parse_expr.proofs.TokenLemmas.{after_sign_sound, after_word_sound, name_sound, name_is, at_length, is_length, name_length, here_is_name}

-- ---- types take tokens

module _ (text : Spelling) where
  pub label_shorter : (n : Option Ident) (ts rest : List Token) → ReadsLabel text n ts rest → length rest ≤ length ts
  label_shorter None ts rest h = omega (arith, ap length h)
  label_shorter (Some n) ts rest h = omega (arith, name_length h.1, is_length h.2)

  maybe_shorter : (n : Option Ident) (ts rest : List Token) → ReadsName text n ts rest → length rest ≤ length ts
  maybe_shorter None ts rest h = omega (arith, ap length h.0)
  maybe_shorter (Some n) ts rest h = omega (arith, name_length h)

  mutual
    unfolding ReadsType

    pub type_shorter : (t : Typ) (ts rest : List Token) → ReadsType text t ts rest → length rest < length ts
    type_shorter (basic p b) ts rest h = omega (arith, at_length h)
    type_shorter (type_name n) ts rest h = omega (arith, name_length h)
    type_shorter (array p t) ts rest h = omega (arith, at_length h.2, is_length h.3, type_shorter t _ _ h.4)
    type_shorter (map_type p n k v) ts rest h =
        omega (
          arith,
          at_length h.6,
          is_length h.7,
          label_shorter n _ _ h.8,
          type_shorter k _ _ h.9,
          is_length h.10,
          is_length h.11,
          type_shorter v _ _ h.12,
        )
    type_shorter (tuple p ps) ts rest h = omega (arith, at_length h.2, params_shorter ps _ _ h.3, is_length h.4)
    type_shorter (proto p fs) ts rest h =
        omega (arith, at_length h.3, is_length h.4, fields_shorter fs _ _ h.5, is_length h.6)

    pub params_shorter : (ps : Params) (ts rest : List Token) → ReadsParams text ps ts rest → length rest < length ts
    params_shorter no_params ts rest h = absurd h
    params_shorter (param n t ps) ts rest h =
        omega (arith, name_length h.3, is_length h.4, type_shorter t _ _ h.5, more_params_shorter ps _ _ h.6)

    more_params_shorter : (ps : Params) (ts rest : List Token) → ReadsMoreParams text ps ts rest
        → length rest ≤ length ts
    more_params_shorter no_params ts rest h = omega (arith, ap length h)
    more_params_shorter (param n t ps) ts rest h =
        omega
        (arith, is_length h.4, name_length h.5, is_length h.6, type_shorter t _ _ h.7, more_params_shorter ps _ _ h.8)

    fields_shorter : (fs : Fields) (ts rest : List Token) → ReadsFields text fs ts rest → length rest < length ts
    fields_shorter no_fields ts rest h = absurd h
    fields_shorter (proto_field n t k l fs) ts rest h =
        omega (
          arith,
          name_length h.6,
          is_length h.7,
          type_shorter t _ _ h.8,
          is_length h.9,
          is_length h.10,
          maybe_shorter l _ _ h.11,
          more_fields_shorter fs _ _ h.12,
        )

    more_fields_shorter : (fs : Fields) (ts rest : List Token) → ReadsMoreFields text fs ts rest
        → length rest ≤ length ts
    more_fields_shorter no_fields ts rest h = omega (arith, ap length h)
    more_fields_shorter (proto_field n t k l fs) ts rest h =
        omega (
          arith,
          is_length h.7,
          name_length h.8,
          is_length h.9,
          type_shorter t _ _ h.10,
          is_length h.11,
          is_length h.12,
          maybe_shorter l _ _ h.13,
          more_fields_shorter fs _ _ h.14,
        )

-- ---- what is known of the parts

-- x is a type at the front of ts, and what follows it
pub record ParsedType (text : Spelling) (d : ℕ) (ts : List Token) (x : Typ × List Token) : Type 0 where
  pub reads : ReadsType text x.0 ts x.1
  pub low : type_height x.0 ≤ d

abbrev pub IsSoundType : Spelling → SubType → ℕ → Type 0
IsSoundType text sub d = (ts : List Token) → Holds (sub ts) (ParsedType text d ts)

-- a name with its type
pub record ReadsParam (text : Spelling) (d : ℕ) (p : Ident × Typ) (ts rest : List Token) : Type 0 where
  pub a : List Token
  pub b : List Token
  pub name : AtName text p.0 ts a
  pub colon : IsSign signs.Colon a b
  pub reads : ReadsType text p.1 b rest
  pub low : type_height p.1 ≤ d

pub record ParamItem (text : Spelling) (d : ℕ) (p : Ident × Typ) (ts rest : List Token) : Type 0 where
  pub later : List Token
  pub comma : IsSign signs.Comma ts later
  pub item : ReadsParam text d p later rest

-- a field of a message
pub record ReadsField (text : Spelling) (d : ℕ) (f : FieldForm) (ts rest : List Token) : Type 0 where
  pub a : List Token
  pub b : List Token
  pub c : List Token
  pub param : ReadsParam text d (f.name, f.of) ts a
  pub at : IsSign signs.At a b
  pub number : Is (kinds.Number f.number) b c
  pub label : ReadsName text f.label c rest

pub record FieldItem (text : Spelling) (d : ℕ) (f : FieldForm) (ts rest : List Token) : Type 0 where
  pub later : List Token
  pub comma : IsSign signs.Comma ts later
  pub item : ReadsField text d f later rest

-- an index or a part of a table, or the key of a map
pub record ParsedElem (text : Spelling) (d : ℕ) (ts : List Token) (x : ElemForm × List Token) : Type 0 where
  pub later : List Token
  pub label : ReadsLabel text x.0.name ts later
  pub reads : ReadsType text x.0.of later x.1
  pub low : type_height x.0.of ≤ d

-- a name with a colon after it
pub record ParsedLabel (text : Spelling) (ts : List Token) (x : Ident × List Token) : Type 0 where
  pub later : List Token
  pub name : AtName text x.0 ts later
  pub colon : IsSign signs.Colon later x.1

pub label_sound : (text : Spelling) (ts : List Token) → Holds (label_at text ts) (ParsedLabel text ts)
unfolding label_at
label_sound text ts =
    bind_holds (name_sound text ts)
    (λ n at. bind_holds (after_sign_sound signs.Colon n.1)
    (λ r c. some_holds _ _ (record { later = n.1; name = at; colon = c })))

number_here_sound : (t : Token) (k : Kind) (ts : List Token) → t.kind ≡ k
    → Holds (number_here k ts) (λ r. Is (kinds.Number r.0) (t ∷ ts) r.1)
number_here_sound t (kinds.Number n) ts e =
    some_holds _ _ (record {
      place = t.place;
      start = t.start;
      len = t.len;
      is = ap (λ (k : Kind). token k t.place t.start t.len ∷ ts) e;
    })
number_here_sound t _ ts e = none_holds _

pub number_sound : (ts : List Token) → Holds (number_at ts) (λ r. Is (kinds.Number r.0) ts r.1)
unfolding number_at
number_sound [] = none_holds _
number_sound (t ∷ ts) = number_here_sound t t.kind ts refl

maybe_name_sound : (text : Spelling) (ts : List Token) → Holds (maybe_name_at text ts) (λ r. ReadsName text r.0 ts r.1)
unfolding maybe_name_at
maybe_name_sound text ts =
    chosen_holds (name_sound text ts)
    (λ none. some_holds _ _ (refl, λ n a at. let is : name_at text ts ≡ Some (n, a) = name_is text n ts a at in cc))
    (λ n at. some_holds _ _ at)

module _ (text : Spelling) (sub : SubType) (d : ℕ) (h : IsSoundType text sub d) where
  pub elem_sound : (ts : List Token) → Holds (elem_at text sub ts) (ParsedElem text d ts)
  unfolding elem_at
  elem_sound ts =
      choose_holds (label_sound text ts)
      (bind_holds (h ts) (λ t g. some_holds _ _ (record { later = ts; label = refl; reads = g.reads; low = g.low })))
      (λ n l. bind_holds (h n.1) (λ t g.
      some_holds _ _ (record { later = n.1; label = (l.later, l.name, l.colon); reads = g.reads; low = g.low })))

  pub param_sound : (ts : List Token) → Holds (param_at text sub ts) (λ x. ReadsParam text d x.0 ts x.1)
  unfolding param_at
  param_sound ts = bind_holds (label_sound text ts) (λ n l. bind_holds (h n.1) (λ t g.
      some_holds _ _ (record { a = l.later; b = n.1; name = l.name; colon = l.colon; reads = g.reads; low = g.low })))

  param_step_sound : (ts : List Token)
      → Holds (param_step text sub ts) (λ r. Holds r (λ x. ParamItem text d x.0 ts x.1))
  unfolding param_step
  param_step_sound ts = choose_holds (after_sign_sound signs.Comma ts) (none_holds _) (λ a c.
      some_holds _ _ (weaker (param_sound a) (λ x g. record { later = a; comma = c; item = g })))

  pub param_item : IsItem (param_step text sub) (ParamItem text d)
  param_item = record {
    sound = λ ts r e. (param_step_sound ts).holds r e;
    shorter =
        λ x ts rest i. omega (
          arith,
          is_length i.comma,
          name_length i.item.name,
          is_length i.item.colon,
          type_shorter text x.1 i.item.b rest i.item.reads,
        );
  }

  field_sound : (ts : List Token) → Holds (proto_field_at text sub ts) (λ x. ReadsField text d x.0 ts x.1)
  unfolding proto_field_at
  field_sound ts = bind_holds (param_sound ts)
      (λ p g. bind_holds (after_sign_sound signs.At p.1)
      (λ a at. bind_holds (number_sound a) (λ k n. bind_holds (maybe_name_sound text k.1) (λ l m.
      some_holds _ _ (record { a = p.1; b = a; c = k.1; param = g; at = at; number = n; label = m })))))

  field_step_sound : (ts : List Token)
      → Holds (proto_field_step text sub ts) (λ r. Holds r (λ x. FieldItem text d x.0 ts x.1))
  unfolding proto_field_step
  field_step_sound ts = choose_holds (after_sign_sound signs.Comma ts) (none_holds _) (λ a c.
      some_holds _ _ (weaker (field_sound a) (λ x g. record { later = a; comma = c; item = g })))

  pub field_item : IsItem (proto_field_step text sub) (FieldItem text d)
  field_item = record {
    sound = λ ts r e. (field_step_sound ts).holds r e;
    shorter = λ x ts rest i. let p = i.item.param in
        omega (
          arith,
          is_length i.comma,
          name_length p.name,
          is_length p.colon,
          type_shorter text x.of p.b i.item.a p.reads,
          is_length i.item.at,
          is_length i.item.number,
          maybe_shorter text x.label i.item.c rest i.item.label,
        );
  }

  more_params_of : (ps : List (Ident × Typ)) (ts rest : List Token) → Many (ParamItem text d) ps ts rest
      → ReadsMoreParams text (params_of ps) ts rest × (param_heights (params_of ps) ≤ d)
  unfolding Many ReadsType type_height
  more_params_of [] ts rest m = (m, omega arith)
  more_params_of (p ∷ ps) ts rest m =
      let i = m.1 in
      let l = more_params_of ps m.0 rest m.2 in (
        (i.later, i.item.a, i.item.b, m.0, i.comma, i.item.name, i.item.colon, i.item.reads, l.0),
        omega (arith, i.item.low, l.1),
      )

  more_fields_of : (fs : List FieldForm) (ts rest : List Token) → Many (FieldItem text d) fs ts rest
      → ReadsMoreFields text (fields_of fs) ts rest × (field_heights (fields_of fs) ≤ d)
  unfolding Many ReadsType type_height
  more_fields_of [] ts rest m = (m, omega arith)
  more_fields_of (f ∷ fs) ts rest m =
      let i = m.1 in
      let p = i.item.param in
      let l = more_fields_of fs m.0 rest m.2 in (
        (
          i.later,
          p.a,
          p.b,
          i.item.a,
          i.item.b,
          i.item.c,
          m.0,
          i.comma,
          p.name,
          p.colon,
          p.reads,
          i.item.at,
          i.item.number,
          i.item.label,
          l.0,
        ),
        omega (arith, p.low, l.1),
      )

-- names with their types
pub record ParsedParams (text : Spelling) (d : ℕ) (ts : List Token) (y : List (Ident × Typ) × List Token) : Type 0 where
  pub reads : ReadsParams text (params_of y.0) ts y.1
  pub low : param_heights (params_of y.0) ≤ d

-- the fields of a message
pub record ParsedFields (text : Spelling) (d : ℕ) (ts : List Token) (y : List FieldForm × List Token) : Type 0 where
  pub reads : ReadsFields text (fields_of y.0) ts y.1
  pub low : field_heights (fields_of y.0) ≤ d

module _ (text : Spelling) (sub : SubType) (d : ℕ) (h : IsSoundType text sub d) where
  pub params_sound : (ts : List Token) → Holds (params_at text sub ts) (ParsedParams text d ts)
  unfolding params_at params_after ReadsType type_height
  params_sound ts =
      bind_holds (param_sound text sub d h ts) (λ p g. bind_holds (all_sound (param_item text sub d h) p.1) (λ y m.
      let l = more_params_of text sub d h y.0 p.1 y.1 m in
      some_holds _ _
      (record { reads = (g.a, g.b, p.1, g.name, g.colon, g.reads, l.0); low = omega (arith, g.low, l.1) })))

  fields_sound : (ts : List Token) → Holds (proto_fields_at text sub ts) (ParsedFields text d ts)
  unfolding proto_fields_at proto_fields_after ReadsType type_height
  fields_sound ts =
      bind_holds (field_sound text sub d h ts) (λ f g. bind_holds (all_sound (field_item text sub d h) f.1) (λ y m.
      let l = more_fields_of text sub d h y.0 f.1 y.1 m in
      let p = g.param in
      some_holds _ _ (record {
        reads = (p.a, p.b, g.a, g.b, g.c, f.1, p.name, p.colon, p.reads, g.at, g.number, g.label, l.0);
        low = omega
            (arith, p.low, l.1);
      })))

  array_sound : (ts0 : List Token) (p : Place) (ts : List Token) → At p (kinds.Word words.Array) ts0 ts
      → Holds (array_at sub p ts) (ParsedType text (suc d) ts0)
  unfolding array_at ReadsType type_height
  array_sound ts0 p ts at = bind_holds (after_word_sound words.Of ts) (λ a o. bind_holds (h a) (λ t g.
      some_holds _ _ (record { reads = (ts, a, at, o, g.reads); low = omega (arith, g.low) })))

  map_sound : (ts0 : List Token) (p : Place) (ts : List Token) → At p (kinds.Word words.Map) ts0 ts
      → Holds (map_type_at text sub p ts) (ParsedType text (suc d) ts0)
  unfolding map_type_at ReadsType type_height
  map_sound ts0 p ts at =
      bind_holds (after_sign_sound signs.OpenBracket ts)
      (λ a o. bind_holds (elem_sound text sub d h a)
      (λ e ge. bind_holds (after_sign_sound signs.CloseBracket e.1) (λ b c.
      bind_holds (after_word_sound words.Of b) (λ f w. bind_holds (h f) (λ t g.
      some_holds _ _ (record {
        reads = (ts, a, ge.later, e.1, b, f, at, o, ge.label, ge.reads, c, w, g.reads);
        low = omega (arith, ge.low, g.low);
      }))))))

  tuple_sound : (ts0 : List Token) (p : Place) (ts : List Token) → At p (kinds.Sign signs.OpenBrace) ts0 ts
      → Holds (tuple_at text sub p ts) (ParsedType text (suc d) ts0)
  unfolding tuple_at ReadsType type_height
  tuple_sound ts0 p ts at =
      bind_holds (params_sound ts) (λ y g. bind_holds (after_sign_sound signs.CloseBrace y.1) (λ r c.
      some_holds _ _ (record { reads = (ts, y.1, at, g.reads, c); low = omega (arith, g.low) })))

  proto_sound : (ts0 : List Token) (p : Place) (ts : List Token) → At p (kinds.Word words.Proto) ts0 ts
      → Holds (proto_at text sub p ts) (ParsedType text (suc d) ts0)
  unfolding proto_at ReadsType type_height
  proto_sound ts0 p ts at =
      bind_holds (after_sign_sound signs.OpenBrace ts)
      (λ a o. bind_holds (fields_sound a) (λ y g. bind_holds (after_sign_sound signs.CloseBrace y.1) (λ r c.
      some_holds _ _ (record { reads = (ts, a, y.1, at, o, g.reads, c); low = omega (arith, g.low) }))))

  type_here_sound : (t : Token) (ts : List Token)
      → Holds (type_here text sub t t.kind ts) (ParsedType text (suc d) (t ∷ ts))
  unfolding ReadsType type_height
  type_here_sound t ts = go t.kind refl
    where
      at : (k : Kind) → t.kind ≡ k → At t.place k (t ∷ ts) ts
      at k e = record { start = t.start; len = t.len; is = ap (λ (k : Kind). token k t.place t.start t.len ∷ ts) e }

      word : (w : Word) → t.kind ≡ kinds.Word w
          → Holds (type_worded text sub t.place w ts) (ParsedType text (suc d) (t ∷ ts))
      word words.Array e = array_sound (t ∷ ts) t.place ts (at _ e)
      word words.Map e = map_sound (t ∷ ts) t.place ts (at _ e)
      word words.Proto e = proto_sound (t ∷ ts) t.place ts (at _ e)
      word words.Bool e = some_holds _ _ (record { reads = at _ e; low = omega arith })
      word words.Int e = some_holds _ _ (record { reads = at _ e; low = omega arith })
      word words.String e = some_holds _ _ (record { reads = at _ e; low = omega arith })
      word words.Bytes e = some_holds _ _ (record { reads = at _ e; low = omega arith })
      word words.Time e = some_holds _ _ (record { reads = at _ e; low = omega arith })
      word _ e = none_holds _

      sign : (s : Sign) → t.kind ≡ kinds.Sign s
          → Holds (type_bracketed text sub t.place s ts) (ParsedType text (suc d) (t ∷ ts))
      sign signs.OpenBrace e = tuple_sound (t ∷ ts) t.place ts (at _ e)
      sign _ e = none_holds _

      go : (k : Kind) → t.kind ≡ k → Holds (type_here text sub t k ts) (ParsedType text (suc d) (t ∷ ts))
      go kinds.Name e =
          some_holds _ _ (record { reads = here_is_name text t ts e; low = omega arith })
      go (kinds.Word w) e = word w e
      go (kinds.Sign s) e = sign s e
      go _ e = none_holds _

  type_step_sound : (ts : List Token) → Holds (type_step text sub ts) (ParsedType text (suc d) ts)
  unfolding type_step
  type_step_sound [] = none_holds _
  type_step_sound (t ∷ ts) = type_here_sound t ts

pub type_sound : (text : Spelling) (d : ℕ) → IsSoundType text (type_at text d) d
unfolding type_at
type_sound text zero ts = none_holds _
type_sound text (suc d) ts = type_step_sound text (type_at text d) d (type_sound text d) ts

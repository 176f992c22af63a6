-- What is spelled as a type is read.
use Rattle.std.proofs.Common.{◌≡◌, ℕ, zero, suc, ℤ, ◌≤◌, ◌<◌, false, List, [], ◌∷◌, Option, Some, None, refl, sym, ap, arith}
use denote.Enum.Bare.{sameb}
use Rattle.sz_types.specs.declared.place.Place.{Place}
use Rattle.sz_lex.specs.declared.token.Token.{Token}
use Rattle.sz_lex.specs.declared.token.Kind.{Kind}
use Rattle.sz_lex.specs.declared.token.Kind.TheVariants as kinds
use Rattle.sz_lex.specs.declared.sign.Sign.{Sign}
use Rattle.sz_lex.specs.declared.sign.Sign.TheVariants as signs
use Rattle.sz_lex.specs.declared.word.Word.TheVariants as words
use Rattle.sz_lex.specs.contracts.sign.Sign.{the_type as sign_type}
use Rattle.sz_tree.specs.declared.types.BasicType.{BasicType}
use Rattle.sz_tree.specs.declared.types.BasicType.TheVariants as basics
use Rattle.sz_tree.specs.Names.{Ident}
use Rattle.sz_tree.specs.Types.{Typ, basic, type_name, array, map_type, tuple, proto, Params, no_params, param, Fields, no_fields}
use Rattle.sz_tree.specs.Types.{proto_field, FieldForm, params_of, fields_of, type_height, param_heights, field_heights}
use Rattle.sz_parse_expr.specs.Tokens.{Spelling, At, Is, IsSign, AtName, Many}
use Rattle.sz_parse_expr.specs.Expressions.{basic_word}
use Rattle.sz_parse_expr.specs.Types.{ReadsLabel, ReadsName, ReadsType, ReadsParams, ReadsMoreParams, ReadsFields, ReadsMoreFields}
use Rattle.sz_parse_expr.specs.Reading.{Read, after_sign, name_here, name_at, ident_of}
use Rattle.sz_parse_expr.specs.ReadingTypes.{SubType, number_at, label_at, maybe_name_at, elem_at, param_at, param_step, params_after}
use Rattle.sz_parse_expr.specs.ReadingTypes.{params_at, proto_field_at, proto_field_step, proto_fields_after, proto_fields_at, array_at}
use Rattle.sz_parse_expr.specs.ReadingTypes.{map_type_at, tuple_at, proto_at, type_step, type_at}
use Rattle.sz_parse_expr.proofs.Steps.{bind_step, choose_some, choose_none, bind_none}
use Rattle.sz_parse_expr.proofs.Items.{IsFound, all_complete}
use Rattle.sz_parse_expr.proofs.TokenLemmas.{after_sign_is, other_sign, after_word_is, name_is, here_is_name}
use Rattle.sz_parse_expr.proofs.TypeSound.{IsSoundType, ReadsParam, ParamItem, ReadsField, FieldItem, param_item, field_item, type_sound}

abbrev pub IsCompleteType : Spelling → SubType → ℕ → Type 0
IsCompleteType text sub d = (t : Typ) (ts rest : List Token) → ReadsType text t ts rest → type_height t ≤ d
    → sub ts ≡ Some (t, rest)

pub label_is : (text : Spelling) (n : Ident) (ts a rest : List Token) → AtName text n ts a → IsSign signs.Colon a rest
    → label_at text ts ≡ Some (n, rest)
unfolding label_at
label_is text n ts a rest at c =
    bind_step _ _ _ _ (name_is text n ts a at) (bind_step _ _ _ _ (after_sign_is signs.Colon a rest c) refl)

pub number_is : (n : ℤ) (ts rest : List Token) → Is (kinds.Number n) ts rest → number_at ts ≡ Some (n, rest)
unfolding number_at
number_is n ts rest h = rw h.is refl

no_name_here : (text : Spelling) (t : Token) (k : Kind) (ts : List Token) → t.kind ≡ k
    → ((n : Ident) (a : List Token) → AtName text n (t ∷ ts) a → ⊥)
    → name_here text t k ts ≡ None
no_name_here text t kinds.Name ts e h =
    absurd (h (ident_of text t) ts (here_is_name text t ts e))
no_name_here text t (kinds.Word w) ts e h = refl
no_name_here text t (kinds.Number n) ts e h = refl
no_name_here text t (kinds.Character c) ts e h = refl
no_name_here text t kinds.Str ts e h = refl
no_name_here text t kinds.Bytes ts e h = refl
no_name_here text t (kinds.Sign s) ts e h = refl

no_name : (text : Spelling) (ts : List Token) → ((n : Ident) (a : List Token) → AtName text n ts a → ⊥)
    → name_at text ts ≡ None
unfolding name_at
no_name text [] h = refl
no_name text (t ∷ ts) h = no_name_here text t t.kind ts refl h

maybe_name_is : (text : Spelling) (n : Option Ident) (ts rest : List Token) → ReadsName text n ts rest
    → maybe_name_at text ts ≡ Some (n, rest)
unfolding maybe_name_at
maybe_name_is text None ts rest h =
    choose_none _ _ _ _ (no_name text ts h.1) (ap (λ (r : List Token). Some (None, r)) h.0)
maybe_name_is text (Some n) ts rest h = choose_some _ _ _ _ _ (name_is text n ts rest h) refl

-- where a type begins and no colon follows it, no name with a colon after it begins
no_label : (text : Spelling) (t : Typ) (ts rest : List Token) → ReadsType text t ts rest
    → after_sign signs.Colon rest ≡ None → label_at text ts ≡ None
unfolding label_at ReadsType name_at
no_label text (basic p b) ts rest re none = bind_none _ _ (rw re.is refl)
no_label text (type_name n) ts rest re none = bind_step _ _ _ _ (name_is text n ts rest re) (bind_none _ _ none)
no_label text (array p t) ts rest re none = bind_none _ _ (rw re.2.is refl)
no_label text (map_type p n k v) ts rest re none = bind_none _ _ (rw re.6.is refl)
no_label text (tuple p ps) ts rest re none = bind_none _ _ (rw re.2.is refl)
no_label text (proto p fs) ts rest re none = bind_none _ _ (rw re.3.is refl)

-- the same as lists
abbrev param_list : Params → List (Ident × Typ)
param_list no_params = []
param_list (param n t ps) = (n, t) ∷ param_list ps

abbrev field_list : Fields → List FieldForm
field_list no_fields = []
field_list (proto_field n t k l fs) = record { name = n; of = t; number = k; label = l } ∷ field_list fs

params_list : (ps : Params) → params_of (param_list ps) ≡ ps
params_list no_params = refl
params_list (param n t ps) = ap (param n t) (params_list ps)

fields_list : (fs : Fields) → fields_of (field_list fs) ≡ fs
fields_list no_fields = refl
fields_list (proto_field n t k l fs) = ap (proto_field n t k l) (fields_list fs)

module _ (text : Spelling) (sub : SubType) (d : ℕ) (s : IsSoundType text sub d) (h : IsCompleteType text sub d) where
  pub elem_complete : (n : Option Ident) (t : Typ) (ts a rest : List Token) → ReadsLabel text n ts a
      → ReadsType text t a rest → type_height t ≤ d
      → after_sign signs.Colon rest ≡ None → elem_at text sub ts ≡ Some (record { name = n; of = t }, rest)
  unfolding elem_at
  elem_complete None t ts a rest l re low none =
      rw l (choose_none _ _ _ _ (no_label text t a rest re none) (bind_step _ _ _ _ (h t a rest re low) refl))
  elem_complete (Some n) t ts a rest l re low none =
      choose_some _ _ _ _ _ (label_is text n ts l.0 a l.1 l.2) (bind_step _ _ _ _ (h t a rest re low) refl)

  param_complete : (p : Ident × Typ) (ts rest : List Token) → ReadsParam text d p ts rest
      → param_at text sub ts ≡ Some (p, rest)
  unfolding param_at
  param_complete p ts rest i = bind_step _ _ _ _ (label_is text p.0 ts i.a i.b i.name i.colon)
      (bind_step _ _ _ _ (h p.1 i.b rest i.reads i.low) refl)

  field_complete : (f : FieldForm) (ts rest : List Token) → ReadsField text d f ts rest
      → proto_field_at text sub ts ≡ Some (f, rest)
  unfolding proto_field_at
  field_complete f ts rest i =
      bind_step _ _ _ _ (param_complete (f.name, f.of) ts i.a i.param)
      (bind_step _ _ _ _ (after_sign_is signs.At i.a i.b i.at) (bind_step _ _ _ _ (number_is f.number i.b i.c i.number)
      (bind_step _ _ _ _ (maybe_name_is text f.label i.c rest i.label) refl)))

  param_found : IsFound (param_step text sub) (ParamItem text d) (λ ts. Unit {0})
  unfolding param_step
  param_found = record {
    found = λ x ts rest i g. choose_some _ _ _ _ _ (after_sign_is signs.Comma ts i.later i.comma)
        (ap (λ (r : Read (Ident × Typ)). Some r) (param_complete x i.later rest i.item));
    begins = λ x ts rest i. tt;
  }

  field_found : IsFound (proto_field_step text sub) (FieldItem text d) (λ ts. Unit {0})
  unfolding proto_field_step
  field_found = record {
    found = λ x ts rest i g. choose_some _ _ _ _ _ (after_sign_is signs.Comma ts i.later i.comma)
        (ap (λ (r : Read FieldForm). Some r) (field_complete x i.later rest i.item));
    begins = λ x ts rest i. tt;
  }

  param_items : (ps : Params) (ts rest : List Token) → ReadsMoreParams text ps ts rest → param_heights ps ≤ d
      → Many (ParamItem text d) (param_list ps) ts rest
  unfolding Many ReadsType type_height
  param_items no_params ts rest re low = re
  param_items (param n t ps) ts rest re low = (
    re.3,
    record {
      later = re.0;
      comma = re.4;
      item = record { a = re.1; b = re.2; name = re.5; colon = re.6; reads = re.7; low = omega arith };
    },
    param_items ps re.3 rest re.8 (omega arith),
  )

  field_items : (fs : Fields) (ts rest : List Token) → ReadsMoreFields text fs ts rest → field_heights fs ≤ d
      → Many (FieldItem text d) (field_list fs) ts rest
  unfolding Many ReadsType type_height
  field_items no_fields ts rest re low = re
  field_items (proto_field n t k l fs) ts rest re low = (
    re.6,
    record {
      later = re.0;
      comma = re.7;
      item = record {
        a = re.3;
        b = re.4;
        c = re.5;
        param = record { a = re.1; b = re.2; name = re.8; colon = re.9; reads = re.10; low = omega arith };
        at =
            re.11;
        number = re.12;
        label = re.13;
      };
    },
    field_items fs re.6 rest re.14 (omega arith),
  )

  no_param : (r : Sign) (ts rest : List Token) → IsSign r ts rest → sameb sign_type r signs.Comma ≡ false
      → param_step text sub ts ≡ None
  unfolding param_step
  no_param r ts rest c e = choose_none _ _ _ _ (other_sign signs.Comma r ts rest c e) refl

  no_field : (r : Sign) (ts rest : List Token) → IsSign r ts rest → sameb sign_type r signs.Comma ≡ false
      → proto_field_step text sub ts ≡ None
  unfolding proto_field_step
  no_field r ts rest c e = choose_none _ _ _ _ (other_sign signs.Comma r ts rest c e) refl

  -- names with their types, before a sign that is no comma
  pub params_complete : (r : Sign) (ps : Params) (ts rest after : List Token) → ReadsParams text ps ts rest
      → param_heights ps ≤ d → IsSign r rest after → sameb sign_type r signs.Comma ≡ false
      → (x : List (Ident × Typ)) × (params_at text sub ts ≡ Some (x, rest)) × (params_of x ≡ ps)
  unfolding params_at params_after ReadsType type_height
  params_complete r no_params ts rest after re low c other = absurd re
  params_complete r (param n t ps) ts rest after re low c other =
      let first = param_complete (n, t) ts re.2 (record {
        a = re.0;
        b = re.1;
        name = re.3;
        colon = re.4;
        reads = re.5;
        low = omega arith;
      }) in
      let m = all_complete (param_item text sub d s) param_found (param_list ps) re.2 rest
      (param_items ps re.2 rest re.6 (omega arith)) tt (no_param r rest after c other) in
      ((n, t) ∷ param_list ps, bind_step _ _ _ _ first (bind_step _ _ _ _ m refl), ap (param n t) (params_list ps))

  fields_complete : (fs : Fields) (ts rest after : List Token) → ReadsFields text fs ts rest → field_heights fs ≤ d
      → IsSign signs.CloseBrace rest after
      → (x : List FieldForm) × (proto_fields_at text sub ts ≡ Some (x, rest)) × (fields_of x ≡ fs)
  unfolding proto_fields_at proto_fields_after ReadsType type_height
  fields_complete no_fields ts rest after re low c = absurd re
  fields_complete (proto_field n t k l fs) ts rest after re low c =
      let first = field_complete (record { name = n; of = t; number = k; label = l }) ts re.5
      (record {
        a = re.2;
        b = re.3;
        c = re.4;
        param = record { a = re.0; b = re.1; name = re.6; colon = re.7; reads = re.8; low = omega arith };
        at =
            re.9;
        number = re.10;
        label = re.11;
      }) in
      let m = all_complete (field_item text sub d s) field_found (field_list fs) re.5 rest
      (field_items fs re.5 rest re.12 (omega arith)) tt
      (no_field signs.CloseBrace rest after c refl) in (
        record { name = n; of = t; number = k; label = l } ∷ field_list fs,
        bind_step _ _ _ _ first (bind_step _ _ _ _ m refl),
        ap (proto_field n t k l) (fields_list fs),
      )

  basic_complete : (p : Place) (b : BasicType) (ts rest : List Token) → At p (kinds.Word (basic_word b)) ts rest
      → type_step text sub ts ≡ Some (basic p b, rest)
  unfolding type_step
  basic_complete p basics.Bool ts rest h = rw h.is refl
  basic_complete p basics.Int ts rest h = rw h.is refl
  basic_complete p basics.String ts rest h = rw h.is refl
  basic_complete p basics.Bytes ts rest h = rw h.is refl
  basic_complete p basics.Time ts rest h = rw h.is refl

  step_complete : (t : Typ) (ts rest : List Token) → ReadsType text t ts rest → type_height t ≤ suc d
      → type_step text sub ts ≡ Some (t, rest)
  unfolding type_step array_at map_type_at tuple_at proto_at ReadsType type_height
  step_complete (basic p b) ts rest re low = basic_complete p b ts rest re
  step_complete (type_name n) ts rest re low =
      rw re.is (ap (λ (t : List ℕ). Some (type_name (record { place = n.place; text = t }), rest)) (sym re.spelled))
  step_complete (array p t) ts rest re low =
      rw re.2.is (bind_step _ _ _ _ (after_word_is words.Of re.0 re.1 re.3)
      (bind_step _ _ _ _ (h t re.1 rest re.4 (omega arith)) refl))
  step_complete (map_type p n k v) ts rest re low =
      rw re.6.is (bind_step _ _ _ _ (after_sign_is signs.OpenBracket re.0 re.1 re.7)
      (bind_step _ _ _ _ (elem_complete n k re.1 re.2 re.3 re.8 re.9 (omega arith)
      (other_sign signs.Colon signs.CloseBracket re.3 re.4 re.10 refl))
      (bind_step _ _ _ _ (after_sign_is signs.CloseBracket re.3 re.4 re.10)
      (bind_step _ _ _ _ (after_word_is words.Of re.4 re.5 re.11)
      (bind_step _ _ _ _ (h v re.5 rest re.12 (omega arith)) refl)))))
  step_complete (tuple p ps) ts rest re low =
      let m = params_complete signs.CloseBrace ps re.0 re.1 rest re.3 (omega arith) re.4 refl in
      rw re.2.is (bind_step _ _ _ _ m.1 (bind_step _ _ _ _ (after_sign_is signs.CloseBrace re.1 rest re.4)
      (ap (λ (ps : Params). Some (tuple p ps, rest)) m.2)))
  step_complete (proto p fs) ts rest re low =
      let m = fields_complete fs re.1 re.2 rest re.5 (omega arith) re.6 in
      rw re.3.is (bind_step _ _ _ _ (after_sign_is signs.OpenBrace re.0 re.1 re.4)
      (bind_step _ _ _ _ m.1 (bind_step _ _ _ _ (after_sign_is signs.CloseBrace re.2 rest re.6)
      (ap (λ (fs : Fields). Some (proto p fs, rest)) m.2))))

type_height_positive : (t : Typ) → 0 < type_height t
unfolding type_height
type_height_positive (array p t) = omega arith
type_height_positive _ = omega arith

pub type_complete : (text : Spelling) (d : ℕ) → IsCompleteType text (type_at text d) d
unfolding type_at
type_complete text zero t ts rest re low = absurd (omega (arith, type_height_positive t))
type_complete text (suc d) t ts rest re low =
    step_complete text (type_at text d) d (type_sound text d) (type_complete text d) t ts rest re low

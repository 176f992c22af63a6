-- Two spellings that agree on each token of a list spell the same types.
use Rattle.std.proofs.Common.{List, Option, Some, None}
use Rattle.sz_lex.specs.declared.token.Token.{Token}
use Rattle.sz_tree.specs.Names.{Ident}
use Rattle.sz_tree.specs.Types.{Typ, basic, type_name, array, map_type, tuple, proto, Params, no_params, param, Fields, no_fields, proto_field}
use Rattle.sz_tree.specs.Statements.{ElemForm}
use Rattle.sz_parse_expr.specs.Tokens.{Spelling}
use Rattle.sz_parse_expr.specs.Types.{ReadsLabel, ReadsName, ReadsType, ReadsParams, ReadsMoreParams, ReadsFields, ReadsMoreFields, ReadsElem}
use Rattle.sz_parse_expr.proofs.ExpressionAlike.{Agree, agree_back, on_end, on_at, on_is, on_name}

module _ (f g : Spelling) where
  label_alike : (o : Option Ident) (ts rest : List Token) → ReadsLabel f o ts rest → Agree f g ts
      → ReadsLabel g o ts rest × Agree f g rest
  label_alike None ts rest h a = (h, on_end f g ts rest h a)
  label_alike (Some n) ts rest h a =
      let m = on_name f g h.1 a in
      ((h.0, m.0, h.2), on_is f g h.2 m.1)

  maybe_name_alike : (o : Option Ident) (ts rest : List Token) → ReadsName f o ts rest → Agree f g ts
      → ReadsName g o ts rest × Agree f g rest
  maybe_name_alike None ts rest h a =
      ((h.0, λ n b r. h.1 n b (on_name g f r (agree_back f g ts a)).0), on_end f g ts rest h.0 a)
  maybe_name_alike (Some n) ts rest h a = on_name f g h a

  mutual
    unfolding ReadsType

    pub type_alike : (t : Typ) (ts rest : List Token) → ReadsType f t ts rest → Agree f g ts
        → ReadsType g t ts rest × Agree f g rest
    type_alike (basic p b) ts rest h a = (h, on_at f g h a)
    type_alike (type_name n) ts rest h a = on_name f g h a
    type_alike (array p t) ts rest h a =
        let x = type_alike t _ _ h.4 (on_is f g h.3 (on_at f g h.2 a)) in
        ((h.0, h.1, h.2, h.3, x.0), x.1)
    type_alike (map_type p n k v) ts rest h a =
        let l = label_alike n _ _ h.8 (on_is f g h.7 (on_at f g h.6 a)) in
        let x = type_alike k _ _ h.9 l.1 in
        let y = type_alike v _ _ h.12 (on_is f g h.11 (on_is f g h.10 x.1)) in
        ((h.0, h.1, h.2, h.3, h.4, h.5, h.6, h.7, l.0, x.0, h.10, h.11, y.0), y.1)
    type_alike (tuple p ps) ts rest h a =
        let x = params_alike ps _ _ h.3 (on_at f g h.2 a) in
        ((h.0, h.1, h.2, x.0, h.4), on_is f g h.4 x.1)
    type_alike (proto p fs) ts rest h a =
        let x = fields_alike fs _ _ h.5 (on_is f g h.4 (on_at f g h.3 a)) in
        ((h.0, h.1, h.2, h.3, h.4, x.0, h.6), on_is f g h.6 x.1)

    pub params_alike : (ps : Params) (ts rest : List Token) → ReadsParams f ps ts rest → Agree f g ts
        → ReadsParams g ps ts rest × Agree f g rest
    params_alike no_params ts rest h a = absurd h
    params_alike (param n t ps) ts rest h a =
        let m = on_name f g h.3 a in
        let x = type_alike t _ _ h.5 (on_is f g h.4 m.1) in
        let y = more_params_alike ps _ _ h.6 x.1 in
        ((h.0, h.1, h.2, m.0, h.4, x.0, y.0), y.1)

    more_params_alike : (ps : Params) (ts rest : List Token) → ReadsMoreParams f ps ts rest → Agree f g ts
        → ReadsMoreParams g ps ts rest × Agree f g rest
    more_params_alike no_params ts rest h a = (h, on_end f g ts rest h a)
    more_params_alike (param n t ps) ts rest h a =
        let m = on_name f g h.5 (on_is f g h.4 a) in
        let x = type_alike t _ _ h.7 (on_is f g h.6 m.1) in
        let y = more_params_alike ps _ _ h.8 x.1 in
        ((h.0, h.1, h.2, h.3, h.4, m.0, h.6, x.0, y.0), y.1)

    fields_alike : (fs : Fields) (ts rest : List Token) → ReadsFields f fs ts rest → Agree f g ts
        → ReadsFields g fs ts rest × Agree f g rest
    fields_alike no_fields ts rest h a = absurd h
    fields_alike (proto_field n t k l fs) ts rest h a =
        let m = on_name f g h.6 a in
        let x = type_alike t _ _ h.8 (on_is f g h.7 m.1) in
        let y = maybe_name_alike l _ _ h.11 (on_is f g h.10 (on_is f g h.9 x.1)) in
        let z = more_fields_alike fs _ _ h.12 y.1 in
        ((h.0, h.1, h.2, h.3, h.4, h.5, m.0, h.7, x.0, h.9, h.10, y.0, z.0), z.1)

    more_fields_alike : (fs : Fields) (ts rest : List Token) → ReadsMoreFields f fs ts rest → Agree f g ts
        → ReadsMoreFields g fs ts rest × Agree f g rest
    more_fields_alike no_fields ts rest h a = (h, on_end f g ts rest h a)
    more_fields_alike (proto_field n t k l fs) ts rest h a =
        let m = on_name f g h.8 (on_is f g h.7 a) in
        let x = type_alike t _ _ h.10 (on_is f g h.9 m.1) in
        let y = maybe_name_alike l _ _ h.13 (on_is f g h.12 (on_is f g h.11 x.1)) in
        let z = more_fields_alike fs _ _ h.14 y.1 in
        ((h.0, h.1, h.2, h.3, h.4, h.5, h.6, h.7, m.0, h.9, x.0, h.11, h.12, y.0, z.0), z.1)

  pub elem_alike : (e : ElemForm) (ts rest : List Token) → ReadsElem f e ts rest → Agree f g ts
      → ReadsElem g e ts rest × Agree f g rest
  unfolding ReadsElem
  elem_alike e ts rest h a =
      let l = label_alike e.name _ _ h.1 a in
      let x = type_alike e.of _ _ h.2 l.1 in
      ((h.0, l.0, x.0), x.1)

-- The loops of the types, turn by turn.
use Rattle.std.proofs.Common.{◌≡◌, List, [], ◌∷◌, Some, None, refl}
use Rattle.sz_lex.specs.declared.token.Token.{Token}
use Rattle.sz_lex.specs.declared.sign.Sign.TheVariants as signs
use Rattle.sz_tree.specs.Names.{Ident}
use Rattle.sz_tree.specs.Types.{Typ, FieldForm}
use Rattle.sz_parse_expr.specs.Tokens.{Spelling}
use Rattle.sz_parse_expr.specs.Reading.{choose, after_sign, all_at, with_items}
use Rattle.sz_parse_expr.specs.ReadingTypes.{SubType, param_at, param_step, params_after, proto_field_at, proto_field_step, proto_fields_after}
use Rattle.sz_parse_expr.proofs.Steps.{choose_some, choose_none}

module _ (text : Spelling) (sub : SubType) where
  pub param_here : (ts after : List Token) → after_sign signs.Comma ts ≡ Some after
      → param_step text sub ts ≡ Some (param_at text sub after)
  unfolding param_step
  param_here ts after c = choose_some _ _ _ _ _ c refl

  pub param_gone : (ts : List Token) → after_sign signs.Comma ts ≡ None → param_step text sub ts ≡ None
  unfolding param_step
  param_gone ts c = choose_none _ _ _ _ c refl

  pub no_param_at_end : param_step text sub [] ≡ None
  unfolding param_step after_sign choose
  no_param_at_end = refl

  pub params_start : (p : Ident × Typ) (ts : List Token)
      → with_items (p ∷ []) (all_at (param_step text sub) ts) ≡ params_after text sub p ts
  unfolding with_items params_after
  params_start p ts = refl

  pub field_here : (ts after : List Token) → after_sign signs.Comma ts ≡ Some after
      → proto_field_step text sub ts ≡ Some (proto_field_at text sub after)
  unfolding proto_field_step
  field_here ts after c = choose_some _ _ _ _ _ c refl

  pub field_gone : (ts : List Token) → after_sign signs.Comma ts ≡ None → proto_field_step text sub ts ≡ None
  unfolding proto_field_step
  field_gone ts c = choose_none _ _ _ _ c refl

  pub no_field_at_end : proto_field_step text sub [] ≡ None
  unfolding proto_field_step after_sign choose
  no_field_at_end = refl

  pub fields_start : (f : FieldForm) (ts : List Token)
      → with_items (f ∷ []) (all_at (proto_field_step text sub) ts) ≡ proto_fields_after text sub f ts
  unfolding with_items proto_fields_after
  fields_start f ts = refl

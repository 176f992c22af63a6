-- Reading types. Each rule is over a reader of its parts.
use Rattle.std.specs.Prelude.{ℕ, zero, suc, ℤ, List, [], ◌∷◌, Option, Some, None}
use Rattle.sz_types.specs.declared.place.Place.{Place}
use Rattle.sz_lex.specs.declared.token.Token.{Token}
use Rattle.sz_lex.specs.declared.token.Kind.{Kind}
use Rattle.sz_lex.specs.declared.token.Kind.TheVariants as kinds
use Rattle.sz_lex.specs.declared.sign.Sign.{Sign}
use Rattle.sz_lex.specs.declared.sign.Sign.TheVariants as signs
use Rattle.sz_lex.specs.declared.word.Word.{Word}
use Rattle.sz_lex.specs.declared.word.Word.TheVariants as words
use Rattle.sz_tree.specs.declared.types.BasicType.{BasicType}
use Rattle.sz_tree.specs.declared.types.BasicType.TheVariants as basics
use Rattle.sz_tree.specs.Names.{Ident}
use Rattle.sz_tree.specs.Types.{Typ, basic, type_name, array, map_type, tuple, proto, FieldForm, params_of, fields_of}
use Rattle.sz_tree.specs.Statements.{ElemForm}
use Rattle.sz_parse_expr.specs.Tokens.{Spelling}
use Rattle.sz_parse_expr.specs.Reading.{Read, ◌>>=◌, choose, after_sign, after_word, ident_of, name_at, all_at}

-- a reader of the parts of a type
abbrev pub SubType : Type 0
SubType = List Token → Read Typ

abbrev pub number_here : Kind → List Token → Read ℤ
number_here (kinds.Number n) ts = Some (n, ts)
number_here _ ts = None

-- a number
unfoldable pub number_at : List Token → Read ℤ
number_at [] = None
number_at (t ∷ ts) = number_here t.kind ts

-- a name with a colon after it
unfoldable pub label_at : Spelling → List Token → Read Ident
label_at text ts = name_at text ts >>= λ n. after_sign signs.Colon n.1 >>= λ r. Some (n.0, r)

-- a name, if there is one
unfoldable pub maybe_name_at : Spelling → List Token → Read (Option Ident)
maybe_name_at text ts = choose (name_at text ts) (Some (None, ts)) (λ n. Some (Some n.0, n.1))

-- a type, with a name and a colon before it or without
unfoldable pub elem_at : Spelling → SubType → List Token → Read ElemForm
elem_at text sub ts =
    choose (label_at text ts) (sub ts >>= λ t. Some (record { name = None; of = t.0 }, t.1))
    (λ n. sub n.1 >>= λ t. Some (record { name = Some n.0; of = t.0 }, t.1))

-- a name and its type
unfoldable pub param_at : Spelling → SubType → List Token → Read (Ident × Typ)
param_at text sub ts = label_at text ts >>= λ n. sub n.1 >>= λ t. Some ((n.0, t.0), t.1)

unfoldable pub param_step : Spelling → SubType → List Token → Option (Read (Ident × Typ))
param_step text sub ts = choose (after_sign signs.Comma ts) None (λ a. Some (param_at text sub a))

-- a name with its type, and those after it
unfoldable pub params_after : Spelling → SubType → Ident × Typ → List Token → Read (List (Ident × Typ))
params_after text sub p ts = all_at (param_step text sub) ts >>= λ y. Some (p ∷ y.0, y.1)

unfoldable pub params_at : Spelling → SubType → List Token → Read (List (Ident × Typ))
params_at text sub ts = param_at text sub ts >>= λ p. params_after text sub p.0 p.1

-- a field of a message
unfoldable pub proto_field_at : Spelling → SubType → List Token → Read FieldForm
proto_field_at text sub ts =
    param_at text sub ts >>= λ p. after_sign signs.At p.1 >>= λ a. number_at a >>= λ k. maybe_name_at text k.1 >>= λ l.
    Some (record { name = p.0.0; of = p.0.1; number = k.0; label = l.0 }, l.1)

unfoldable pub proto_field_step : Spelling → SubType → List Token → Option (Read FieldForm)
proto_field_step text sub ts = choose (after_sign signs.Comma ts) None (λ a. Some (proto_field_at text sub a))

unfoldable pub proto_fields_after : Spelling → SubType → FieldForm → List Token → Read (List FieldForm)
proto_fields_after text sub f ts = all_at (proto_field_step text sub) ts >>= λ y. Some (f ∷ y.0, y.1)

unfoldable pub proto_fields_at : Spelling → SubType → List Token → Read (List FieldForm)
proto_fields_at text sub ts = proto_field_at text sub ts >>= λ f. proto_fields_after text sub f.0 f.1

-- the types after their first token
unfoldable pub array_at : SubType → Place → List Token → Read Typ
array_at sub p ts = after_word words.Of ts >>= λ a. sub a >>= λ t. Some (array p t.0, t.1)

unfoldable pub map_type_at : Spelling → SubType → Place → List Token → Read Typ
map_type_at text sub p ts =
    after_sign signs.OpenBracket ts >>= λ a. elem_at text sub a >>= λ e. after_sign signs.CloseBracket e.1
    >>= λ b. after_word words.Of b >>= λ c. sub c >>= λ t. Some (map_type p e.0.name e.0.of t.0, t.1)

unfoldable pub tuple_at : Spelling → SubType → Place → List Token → Read Typ
tuple_at text sub p ts = params_at text sub ts >>= λ y. after_sign signs.CloseBrace y.1
    >>= λ r. Some (tuple p (params_of y.0), r)

unfoldable pub proto_at : Spelling → SubType → Place → List Token → Read Typ
proto_at text sub p ts =
    after_sign signs.OpenBrace ts >>= λ a. proto_fields_at text sub a >>= λ y. after_sign signs.CloseBrace y.1
    >>= λ r. Some (proto p (fields_of y.0), r)

-- the basic type that a word names
abbrev pub basic_of : Word → Option BasicType
basic_of words.Bool = Some basics.Bool
basic_of words.Int = Some basics.Int
basic_of words.String = Some basics.String
basic_of words.Bytes = Some basics.Bytes
basic_of words.Time = Some basics.Time
basic_of _ = None

abbrev pub basic_here : Place → Option BasicType → List Token → Read Typ
basic_here p (Some b) ts = Some (basic p b, ts)
basic_here p None ts = None

abbrev pub type_worded : Spelling → SubType → Place → Word → List Token → Read Typ
type_worded text sub p words.Array ts = array_at sub p ts
type_worded text sub p words.Map ts = map_type_at text sub p ts
type_worded text sub p words.Proto ts = proto_at text sub p ts
type_worded text sub p w ts = basic_here p (basic_of w) ts

abbrev pub type_bracketed : Spelling → SubType → Place → Sign → List Token → Read Typ
type_bracketed text sub p signs.OpenBrace ts = tuple_at text sub p ts
type_bracketed text sub p _ ts = None

-- what a token begins
abbrev pub type_here : Spelling → SubType → Token → Kind → List Token → Read Typ
type_here text sub t kinds.Name ts = Some (type_name (ident_of text t), ts)
type_here text sub t (kinds.Word w) ts = type_worded text sub t.place w ts
type_here text sub t (kinds.Sign s) ts = type_bracketed text sub t.place s ts
type_here text sub t _ ts = None

unfoldable pub type_step : Spelling → SubType → List Token → Read Typ
type_step text sub [] = None
type_step text sub (t ∷ ts) = type_here text sub t t.kind ts

-- a type of at most this height
unfoldable pub type_at : Spelling → ℕ → SubType
type_at text zero ts = None
type_at text (suc d) ts = type_step text (type_at text d) ts

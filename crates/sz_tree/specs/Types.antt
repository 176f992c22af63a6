-- Types as contracts see them.
use Rattle.std.specs.Prelude.{ℕ, ◌+◌, ℤ, Option, List, [], ◌∷◌, max}
use Rattle.sz_types.specs.declared.place.Place.{Place}
use Rattle.sz_tree.specs.declared.types.BasicType.{BasicType}
use Rattle.sz_tree.specs.Names.{Ident}

mutual
  -- a type, by the rule that spells it
  pub data Typ : Type 0 where
    basic : Place → BasicType → Typ
    type_name : Ident → Typ
    array : Place → Typ → Typ
    map_type : Place → Option Ident → Typ → Typ → Typ
    tuple : Place → Params → Typ
    proto : Place → Fields → Typ

  -- names with their types
  pub data Params : Type 0 where
    no_params : Params
    param : Ident → Typ → Params → Params

  -- fields of a message
  pub data Fields : Type 0 where
    no_fields : Fields
    proto_field : Ident → Typ → ℤ → Option Ident → Fields → Fields

-- a field of a message
pub record FieldForm : Type 0 where
  pub name : Ident
  pub of : Typ
  pub number : ℤ
  pub label : Option Ident

-- the same as lists
abbrev pub params_of : List (Ident × Typ) → Params
params_of [] = no_params
params_of (p ∷ ps) = param p.0 p.1 (params_of ps)

abbrev pub fields_of : List FieldForm → Fields
fields_of [] = no_fields
fields_of (f ∷ fs) = proto_field f.name f.of f.number f.label (fields_of fs)

-- the place of the first token
abbrev pub type_place : Typ → Place
type_place (basic p b) = p
type_place (type_name n) = n.place
type_place (array p t) = p
type_place (map_type p n k v) = p
type_place (tuple p ps) = p
type_place (proto p fs) = p

unfoldable mutual
  -- 1 more than the greatest height of a part; names, numbers and basic types are parts of height 1
  pub type_height : Typ → ℕ
  type_height (basic p b) = 1
  type_height (type_name n) = 1
  type_height (array p t) = 1 + type_height t
  type_height (map_type p n k v) = 1 + max (type_height k) (type_height v)
  type_height (tuple p ps) = 1 + param_heights ps
  type_height (proto p fs) = 1 + field_heights fs

  -- the greatest height of a type among them
  pub param_heights : Params → ℕ
  param_heights no_params = 0
  param_heights (param n t ps) = max (type_height t) (param_heights ps)

  pub field_heights : Fields → ℕ
  field_heights no_fields = 0
  field_heights (proto_field n t k l fs) = max (type_height t) (field_heights fs)

-- Plain data: what contracts see of a type.
use Rattle.std.specs.Prelude.{ℕ, List, [], ◌∷◌}
use Rattle.sz_types.specs.declared.encoding.Encoding.{Encoding}

mutual
  -- a type as plain data
  pub data Shape : Type 0 where
    truth : Shape
    int : Shape
    time : Shape
    str : Shape
    bytes : Shape
    array : Shape → Shape
    mapping : Shape → Shape → Shape
    tuple : FieldShapes → Shape
    proto : FieldShapes → Shape

  -- a field as plain data: the bytes of its name, its type, its number and its encoding
  pub data FieldShape : Type 0 where
    field : List ℕ → Shape → ℕ → Encoding → FieldShape

  -- the fields of a tuple or a proto type, in order
  pub data FieldShapes : Type 0 where
    no_fields : FieldShapes
    with_field : FieldShape → FieldShapes → FieldShapes

-- the fields that a list holds
abbrev pub fields_of : List FieldShape → FieldShapes
fields_of [] = no_fields
fields_of (f ∷ fs) = with_field f (fields_of fs)

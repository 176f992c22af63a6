-- Types as they are written, whose names stand for types that were named before.
use Rattle.std.specs.Prelude.{ℕ, List, [], ◌∷◌, ◌++◌, slice_get, unwrap_or}
use Rattle.sz_types.specs.Data.{Shape, FieldShape, FieldShapes, no_fields, with_field, field}
use Rattle.sz_types.specs.Seen.{seen}
use Rattle.sz_check_rules.specs.JudgingTypes.{shape_of}
use Rattle.sz_check_names.specs.declared.written.Written.{Written, Row_of-WrittenField, end_of-WrittenField, more_of-WrittenField}
use Rattle.sz_check_names.specs.declared.written.Written.TheVariants as written
use Rattle.sz_check_names.specs.declared.written.WrittenField.{WrittenField}

-- the type with this number; there is always one where it is asked for
abbrev pub type_at : List Shape → ℕ → Shape
type_at types number = unwrap_or (slice_get types number) Shape.truth

module _ (types : List Shape) where
  abbrev mutual
    -- what is written, with the names in it written out by these types
    pub shape_in : Written → Shape
    shape_in (written.Basic b) = shape_of b
    shape_in (written.Array' b t) = Shape.array (shape_in t)
    shape_in (written.Map' b k c v) = Shape.mapping (shape_in k) (shape_in v)
    shape_in (written.Tuple' s fs) = Shape.tuple (fields_in_row fs)
    shape_in (written.Proto' s fs) = Shape.proto (fields_in_row fs)
    shape_in (written.Named n) = type_at types n
    shape_in (written.Whole t) = seen t

    -- the fields of a row
    pub fields_in_row : {m : _} → Row_of-WrittenField m → FieldShapes
    fields_in_row end_of-WrittenField = no_fields
    fields_in_row (more_of-WrittenField n t k c fs) = with_field (field n (shape_in t) k c) (fields_in_row fs)

-- a field as it is written, with the names in its type written out
abbrev pub field_in : List Shape → WrittenField → FieldShape
field_in types f = field f.name (shape_in types f.ty) f.number f.code

-- the types after these, each written with those in front of it
abbrev pub shapes_after : List Shape → List Written → List Shape
shapes_after types [] = types
shapes_after types (w ∷ ws) = shapes_after (types ++ shape_in types w ∷ []) ws

-- types in the order in which they were named
abbrev pub shapes_of : List Written → List Shape
shapes_of ws = shapes_after [] ws

-- What contracts see of one level of a type.
use Rattle.std.specs.Prelude.{map, Bool, true, false}
use Rattle.sz_types.specs.Data.{Shape, fields_of}
use Rattle.sz_types.specs.Seen.{seen, seen_field}
use Rattle.sz_types.specs.declared.kind.Kind.{Kind}
use Rattle.sz_types.specs.declared.kind.Kind.TheVariants as kinds

-- the type that this is
abbrev pub shape_of_kind : Kind → Shape
shape_of_kind kinds.Bool = Shape.truth
shape_of_kind kinds.Int = Shape.int
shape_of_kind kinds.Time = Shape.time
shape_of_kind kinds.Str = Shape.str
shape_of_kind kinds.Bytes = Shape.bytes
shape_of_kind (kinds.Array t) = Shape.array (seen t.now)
shape_of_kind (kinds.Map k v) = Shape.mapping (seen k.now) (seen v.now)
shape_of_kind (kinds.Tuple fields) = Shape.tuple (fields_of (map seen_field fields.now))
shape_of_kind (kinds.Proto fields) = Shape.proto (fields_of (map seen_field fields.now))

-- whether the type is that of whole numbers
abbrev pub is_int : Shape → Bool
is_int Shape.int = true
is_int _ = false

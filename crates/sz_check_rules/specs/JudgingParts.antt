-- What an element, a slice and a field are judged to be.
use Rattle.std.specs.Prelude.{Bool, true, false, Option, Some, None, Ok}
use Rattle.sz_types.specs.Data.{Shape, FieldShapes}
use Rattle.sz_types.specs.Same.{alike}
use Rattle.sz_types.specs.Rows.{index_row, slice_row}
use Rattle.sz_types.specs.declared.place.Place.{Place}
use Rattle.sz_tree.specs.Names.{Ident}
use Rattle.sz_tree.specs.Expressions.{Exp, place_of}
use Rattle.sz_core.specs.Nodes.{Node, node, type_of}
use Rattle.sz_core.specs.Nodes as forms
use Rattle.sz_check_rules.specs.Refusals.{Judged, ◌>>=◌, unless, wrong_type, no_field}
use Rattle.sz_check_rules.specs.Agreeing.{Found, field_named, taken}

-- whether a value of this type has an index, and whether it has slices
abbrev pub has_index : Shape → Bool
has_index Shape.str = true
has_index Shape.bytes = true
has_index (Shape.array t) = true
has_index (Shape.mapping k v) = true
has_index _ = false

abbrev pub made_index : Place → Exp → Exp → Node → Node → Judged Node
made_index p e i n m = do
  _ ← unless (has_index (type_of n)) (wrong_type (place_of e))
  given (index_row (type_of n) (type_of m))
  where
    given : Option Shape → Judged Node
    given (Some t) = Ok (node p t (forms.index n m))
    given None = wrong_type (place_of i)

-- an expression that has to be a whole number
abbrev pub whole : Exp → Node → Judged Unit
whole e n = unless (alike (type_of n) Shape.int) (wrong_type (place_of e))

abbrev pub made_slice : Place → Exp → Exp → Exp → Node → Node → Node → Judged Node
made_slice p e i j n m o = do
  _ ← taken (slice_row (type_of n)) e
  _ ← whole i m
  _ ← whole j o
  Ok (node p (type_of n) (forms.slice n m o))

-- the fields of a tuple or a message
abbrev pub fields_in : Shape → Option FieldShapes
fields_in (Shape.tuple fields) = Some fields
fields_in (Shape.proto fields) = Some fields
fields_in _ = None

-- the field with a name in a value of this type; the place is that of the value
abbrev pub field_in : Place → Shape → Ident → Judged Found
field_in p t f = inside (fields_in t)
  where
    found : Option Found → Judged Found
    found (Some x) = Ok x
    found None = no_field f

    inside : Option FieldShapes → Judged Found
    inside (Some fields) = found (field_named f.text 0 fields)
    inside None = wrong_type p

abbrev pub made_field : Place → Exp → Node → Ident → Judged Node
made_field p e n f = do
  x ← field_in (place_of e) (type_of n) f
  Ok (node p x.type (forms.field n x.place))

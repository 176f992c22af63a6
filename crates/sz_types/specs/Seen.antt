-- What contracts see of a type, of a field and of a list of fields.
use Rattle.std.specs.Prelude.{List}
use Rattle.sz_types.specs.Data.{Shape, truth, int, time, str, bytes, array, mapping, tuple, proto, FieldShape, field, fields_of}
use Rattle.sz_types.specs.declared.ty.Ty.{Ty, fold-Ty}
use Rattle.sz_types.specs.declared.ty.Ty.TheOpen.{Ty-F, Field-F, Fields-F}
use Rattle.sz_types.specs.declared.ty.Field.{Field}
use Rattle.sz_types.specs.declared.ty.Fields.{Fields, fold-Fields}

-- one level of a type, with the types and fields inside already seen as their data
abbrev pub ty_step : Ty-F Shape FieldShape (List FieldShape) → Shape
ty_step Ty-F.Bool = truth
ty_step Ty-F.Int = int
ty_step Ty-F.Time = time
ty_step Ty-F.Str = str
ty_step Ty-F.Bytes = bytes
ty_step (Ty-F.Array element) = array element.value
ty_step (Ty-F.Map key value) = mapping key.value value.value
ty_step (Ty-F.Tuple fields) = tuple (fields_of fields)
ty_step (Ty-F.Proto fields) = proto (fields_of fields)

-- one level of a field, with its type already seen as its data
abbrev pub field_step : Field-F Shape FieldShape (List FieldShape) → FieldShape
field_step f = field f.name f.ty f.number f.code

-- one level of a list of fields, each of them already seen as its data
abbrev pub fields_step : Fields-F Shape FieldShape (List FieldShape) → List FieldShape
fields_step fields = fields.fields.value.items

-- the plain data of a type
abbrev pub seen : Ty → Shape
seen = fold-Ty Shape FieldShape (List FieldShape) ty_step field_step fields_step

-- the plain data of a field
abbrev pub seen_field : Field → FieldShape
seen_field f = field f.name (seen f.ty) f.number f.code

-- the plain data of the fields
abbrev pub seen_fields : Fields → List FieldShape
seen_fields = fold-Fields Shape FieldShape (List FieldShape) ty_step field_step fields_step

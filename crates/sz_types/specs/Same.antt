-- When two types are the same.
use Rattle.std.specs.Prelude.{ℕ, Bool, true, false, ◌&&◌, nat_eq}
use Rattle.std.specs.Cmp.Lexicographic.{pointwise}
use Rattle.sz_types.specs.Data.{Shape, truth, int, time, str, bytes, array, mapping, tuple, proto, FieldShape, field, FieldShapes, no_fields, with_field}
use Rattle.sz_types.specs.declared.encoding.Encoding.{Encoding}
use Rattle.sz_types.specs.declared.encoding.Encoding.TheVariants.{Plain, Zigzag, Fixed32, Fixed64}

-- the place of an encoding in the order of the encodings
abbrev pub encoding_number : Encoding → ℕ
encoding_number Plain = 0
encoding_number Zigzag = 1
encoding_number Fixed32 = 2
encoding_number Fixed64 = 3

abbrev mutual
  -- whether two types are alike in kind and in all parts
  pub alike : Shape → Shape → Bool
  alike truth truth = true
  alike int int = true
  alike time time = true
  alike str str = true
  alike bytes bytes = true
  alike (array s) (array t) = alike s t
  alike (mapping k v) (mapping l w) = alike k l && alike v w
  alike (tuple fs) (tuple gs) = alike_fields fs gs
  alike (proto fs) (proto gs) = alike_fields fs gs
  alike _ _ = false

  -- whether two fields agree in name, type, number and encoding
  pub alike_field : FieldShape → FieldShape → Bool
  alike_field (field name s number code) (field other t place way) =
      pointwise nat_eq name other && alike s t && nat_eq number place
      && nat_eq (encoding_number code) (encoding_number way)

  -- whether the fields agree one by one, in order
  pub alike_fields : FieldShapes → FieldShapes → Bool
  alike_fields no_fields no_fields = true
  alike_fields (with_field f fs) (with_field g gs) = alike_field f g && alike_fields fs gs
  alike_fields _ _ = false

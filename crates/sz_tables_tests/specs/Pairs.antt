-- Pairs of whole numbers: their type, and they themselves.
use Rattle.std.specs.Prelude.{ℤ, List, [], ◌∷◌, codes}
use Rattle.sz_types.specs.Data.{Shape, FieldShape, field, fields_of}
use Rattle.sz_types.specs.declared.encoding.Encoding.TheVariants.{Plain}
use Rattle.sz_value.specs.Data.{Datum, data_of}

-- the fields of a pair, a and b
abbrev pub pair_fields : List FieldShape
pair_fields = field (codes "a") Shape.int 0 Plain ∷ field (codes "b") Shape.int 0 Plain ∷ []

-- the type of pairs
abbrev pub pairs : Shape
pairs = Shape.tuple (fields_of pair_fields)

-- the pair of two numbers
abbrev pub pair_of : ℤ → ℤ → Datum
pair_of a b = Datum.tuple (data_of (Datum.int a ∷ Datum.int b ∷ []))

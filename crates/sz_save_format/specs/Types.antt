-- The bytes of a type: one for its kind, and after it the types that it is made of, or its fields.
use Rattle.std.specs.Prelude.{◌≡◌, ℕ, ◌+◌, ◌≤◌, max, Bool, true, false, ⊤, if◌then◌else◌, List, [], ◌∷◌, ◌++◌}
use Rattle.sz_types.specs.Data.{Shape, FieldShapes, no_fields, with_field, field}
use Rattle.sz_types.specs.Same.{encoding_number}
use Rattle.sz_types.specs.declared.encoding.Encoding.{Encoding}
use Rattle.sz_types.specs.declared.encoding.Encoding.TheVariants.{Plain}
use Rattle.sz_flat.specs.Spelling.{length_bytes, counted_bytes, IsShort}
use Rattle.sz_save_format.specs.Names.{HasName}

-- how many fields there are
abbrev pub field_count : FieldShapes → ℕ
field_count no_fields = 0
field_count (with_field f fields) = field_count fields + 1

-- what stands after the type of a message's field: its number in 4 bytes, and its encoding
abbrev pub number_and_code : ℕ → Encoding → List ℕ
number_and_code number code = length_bytes number ++ (encoding_number code ∷ [])

abbrev mutual
  -- the bytes of a type
  pub type_bytes : Shape → List ℕ
  type_bytes Shape.truth = 1 ∷ []
  type_bytes Shape.int = 2 ∷ []
  type_bytes Shape.time = 3 ∷ []
  type_bytes Shape.str = 4 ∷ []
  type_bytes Shape.bytes = 5 ∷ []
  type_bytes (Shape.array t) = 6 ∷ type_bytes t
  type_bytes (Shape.mapping k v) = 8 ∷ type_bytes k ++ type_bytes v
  type_bytes (Shape.tuple fields) = 7 ∷ length_bytes (field_count fields) ++ fields_bytes false fields
  type_bytes (Shape.proto fields) = 9 ∷ length_bytes (field_count fields) ++ fields_bytes true fields

  -- the bytes of fields, of a message or of a tuple: for each its name, its type, and in a message its number and
  -- encoding
  pub fields_bytes : Bool → FieldShapes → List ℕ
  fields_bytes numbered no_fields = []
  fields_bytes numbered (with_field (field name t number code) fields) =
      (counted_bytes name ++ (type_bytes t ++ (if numbered then number_and_code number code else [])))
      ++ fields_bytes numbered fields

-- a tuple's field has no number and no encoding, and a message's number has 4 bytes
abbrev pub HasNumber : Bool → ℕ → Encoding → Type 0
HasNumber false number code = (number ≡ 0) × (code ≡ Plain)
HasNumber true number code = IsShort number

abbrev mutual
  -- each name, number and count in the type has its bytes
  pub HasTypeBytes : Shape → Type 0
  HasTypeBytes Shape.truth = ⊤
  HasTypeBytes Shape.int = ⊤
  HasTypeBytes Shape.time = ⊤
  HasTypeBytes Shape.str = ⊤
  HasTypeBytes Shape.bytes = ⊤
  HasTypeBytes (Shape.array t) = HasTypeBytes t
  HasTypeBytes (Shape.mapping k v) = HasTypeBytes k × HasTypeBytes v
  HasTypeBytes (Shape.tuple fields) = IsShort (field_count fields) × HaveFieldBytes false fields
  HasTypeBytes (Shape.proto fields) = IsShort (field_count fields) × HaveFieldBytes true fields

  -- each of the fields has its bytes
  pub HaveFieldBytes : Bool → FieldShapes → Type 0
  HaveFieldBytes numbered no_fields = ⊤
  HaveFieldBytes numbered (with_field (field name t number code) fields) =
      (HasName name × HasTypeBytes t × HasNumber numbered number code) × HaveFieldBytes numbered fields

abbrev mutual
  -- how many levels a type has
  pub height : Shape → ℕ
  height (Shape.array t) = height t + 1
  height (Shape.mapping k v) = max (height k) (height v) + 1
  height (Shape.tuple fields) = tallest fields + 1
  height (Shape.proto fields) = tallest fields + 1
  height _ = 1

  -- the greatest height of the fields' types, 0 where there are no fields
  pub tallest : FieldShapes → ℕ
  tallest no_fields = 0
  tallest (with_field (field name t number code) fields) = max (height t) (tallest fields)

-- how many levels a saved type has at most
abbrev pub most_height : ℕ
most_height = 256

-- the type can stand in a saved file
pub record IsSavedType (t : Shape) : Type 0 where
  pub has : HasTypeBytes t
  pub low : height t ≤ most_height

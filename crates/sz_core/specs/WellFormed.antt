-- Types and tables that a program may declare.
use Rattle.std.specs.Prelude.{ℕ, List, [], ◌∷◌, Bool, true, false, ◌&&◌, ◌||◌, not, nat_eq, nat_le, Option, Some, None, bytes_eq}
use Rattle.std.specs.List.{list_any}
use Rattle.sz_types.specs.Data.{Shape, field, FieldShapes, no_fields, with_field}
use Rattle.sz_types.specs.Tables.{Declaration}
use Rattle.sz_types.specs.declared.encoding.Encoding.{Encoding}
use Rattle.sz_types.specs.declared.encoding.Encoding.TheVariants.{Plain}
use Rattle.sz_types.specs.declared.table.TableKind.{TableKind}
use Rattle.sz_types.specs.declared.table.TableKind.TheVariants.{Sum, Maximum, Minimum, Set, Collection}

-- the names of fields, in order
abbrev pub names_of : FieldShapes → List (List ℕ)
names_of no_fields = []
names_of (with_field (field name s number code) fields) = name ∷ names_of fields

-- the numbers of fields, in order
abbrev pub numbers_of : FieldShapes → List ℕ
numbers_of no_fields = []
numbers_of (with_field (field name s number code) fields) = number ∷ numbers_of fields

-- no text stands twice in the list
abbrev pub are_distinct_texts : List (List ℕ) → Bool
are_distinct_texts [] = true
are_distinct_texts (t ∷ ts) = not (list_any (bytes_eq t) ts) && are_distinct_texts ts

-- no number stands twice in the list
abbrev pub are_distinct_numbers : List ℕ → Bool
are_distinct_numbers [] = true
are_distinct_numbers (n ∷ ns) = not (list_any (nat_eq n) ns) && are_distinct_numbers ns

-- whether a field without an encoding word has it, which any field may
abbrev pub is_plain : Encoding → Bool
is_plain Plain = true
is_plain _ = false

-- whether an encoding can be that of single numbers of this type
abbrev pub encodes_number : Shape → Bool
encodes_number Shape.int = true
encodes_number Shape.time = true
encodes_number _ = false

-- the most that the number of a field can be
abbrev pub most_field_number : ℕ
most_field_number = 536870911

-- whether a message may have a field of this type, but for those inside
abbrev pub is_single_field_type : Shape → Bool
is_single_field_type Shape.truth = true
is_single_field_type Shape.int = true
is_single_field_type Shape.time = true
is_single_field_type Shape.str = true
is_single_field_type Shape.bytes = true
is_single_field_type (Shape.proto _) = true
is_single_field_type _ = false

-- whether a message may have a field of this type: a single one, or as many as there are
abbrev pub is_field_type : Shape → Bool
is_field_type (Shape.array t) = is_single_field_type t
is_field_type t = is_single_field_type t

-- whether the encoding word may stand after a field of this type
abbrev pub takes_encoding : Encoding → Shape → Bool
takes_encoding code (Shape.array t) = is_plain code || encodes_number t
takes_encoding code t = is_plain code || encodes_number t

unfoldable mutual
  -- whether the type is well formed: fields of one tuple or message have different names, a tuple's fields have no
  -- number and no encoding, and those of a message have different numbers within bounds, types that a message can
  -- hold, and encodings that their types take
  pub is_well_formed : Shape → Bool
  is_well_formed Shape.truth = true
  is_well_formed Shape.int = true
  is_well_formed Shape.time = true
  is_well_formed Shape.str = true
  is_well_formed Shape.bytes = true
  is_well_formed (Shape.array t) = is_well_formed t
  is_well_formed (Shape.mapping k v) = is_well_formed k && is_well_formed v
  is_well_formed (Shape.tuple fields) = are_distinct_texts (names_of fields) && are_parts fields
  is_well_formed (Shape.proto fields) =
      are_distinct_texts (names_of fields) && are_distinct_numbers (numbers_of fields) && are_message_fields fields

  -- whether these can be the fields of a tuple
  pub are_parts : FieldShapes → Bool
  are_parts no_fields = true
  are_parts (with_field (field name t number code) fields) =
      nat_eq number 0 && is_plain code && is_well_formed t && are_parts fields

  -- whether these can be the fields of a message
  pub are_message_fields : FieldShapes → Bool
  are_message_fields no_fields = true
  are_message_fields (with_field (field name t number code) fields) =
      nat_le 1 number && nat_le number most_field_number && is_field_type t && takes_encoding code t && is_well_formed t
      && are_message_fields fields

-- whether each type of the list is well formed
abbrev pub are_well_formed : List Shape → Bool
are_well_formed [] = true
are_well_formed (t ∷ ts) = is_well_formed t && are_well_formed ts

-- whether each field is a whole number
abbrev pub are_whole_numbers : FieldShapes → Bool
are_whole_numbers no_fields = true
are_whole_numbers (with_field (field name Shape.int number code) fields) = are_whole_numbers fields
are_whole_numbers _ = false

-- whether values of the type can be summed
abbrev pub has_sum : Shape → Bool
has_sum Shape.int = true
has_sum (Shape.tuple fields) = are_whole_numbers fields
has_sum (Shape.proto fields) = are_whole_numbers fields
has_sum _ = false

-- whether the type can be that of weights, if there is one
abbrev pub is_weight : Option Shape → Bool
is_weight None = false
is_weight (Some Shape.int) = true
is_weight (Some Shape.time) = true
is_weight (Some _) = false

-- whether there is no weight
abbrev pub has_no_weight : Option Shape → Bool
has_no_weight None = true
has_no_weight (Some t) = false

-- whether the number lies between the two, both counted in
abbrev pub is_between : ℕ → ℕ → ℕ → Bool
is_between least most n = nat_le least n && nat_le n most

-- whether a declaration is one that its kind allows: its limit, 0 where the kind has none, its element and its weight
abbrev pub kind_allows : TableKind → Declaration → Bool
kind_allows Sum d = nat_eq d.limit 0 && has_sum d.element && has_no_weight d.weight
kind_allows Maximum d = is_between 1 10000 d.limit && is_weight d.weight
kind_allows Minimum d = is_between 1 10000 d.limit && is_weight d.weight
kind_allows Set d = is_between 1 1000000 d.limit && has_no_weight d.weight
kind_allows Collection d = nat_eq d.limit 0 && has_no_weight d.weight

-- whether a table's kind, limit, element and weight go together
abbrev pub is_allowed : Declaration → Bool
is_allowed d = kind_allows d.kind d

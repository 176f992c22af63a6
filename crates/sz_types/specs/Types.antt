-- Which types a value has.
use Rattle.std.specs.Prelude.{Bool, true, false, ◌&&◌, List, [], ◌∷◌}
use Rattle.sz_types.specs.Data.{Shape, FieldShapes, no_fields, with_field, field}
use Rattle.sz_value.specs.Data.{Datum, truth, int, time, str, bytes, array, tuple, mapping, Data, no_data, datum, Entries, no_entries, entry}

abbrev mutual
  -- whether a value has a type: an empty array has every array type, an empty map every map type, and a tuple each
  -- tuple and proto type that its parts fit
  pub has_type : Datum → Shape → Bool
  has_type (truth b) Shape.truth = true
  has_type (int n) Shape.int = true
  has_type (time n) Shape.time = true
  has_type (str s) Shape.str = true
  has_type (bytes s) Shape.bytes = true
  has_type (array ds) (Shape.array element) = all_have ds element
  has_type (tuple ds) (Shape.tuple fields) = parts_fit ds fields
  has_type (tuple ds) (Shape.proto fields) = parts_fit ds fields
  has_type (mapping es) (Shape.mapping key value) = pairs_have es key value
  has_type _ _ = false

  -- whether each part has the type
  pub all_have : Data → Shape → Bool
  all_have no_data element = true
  all_have (datum d ds) element = has_type d element && all_have ds element

  -- whether the parts have the types of the fields, one by one
  pub parts_fit : Data → FieldShapes → Bool
  parts_fit no_data no_fields = true
  parts_fit (datum d ds) (with_field (field name s number code) fields) = has_type d s && parts_fit ds fields
  parts_fit _ _ = false

  -- whether each key and each value has its type
  pub pairs_have : Entries → Shape → Shape → Bool
  pairs_have no_entries key value = true
  pairs_have (entry k v es) key value = has_type k key && has_type v value && pairs_have es key value

-- whether each value has the type beside it, and there are as many types as values
abbrev pub have_types : List Datum → List Shape → Bool
have_types [] [] = true
have_types (d ∷ ds) (s ∷ ss) = has_type d s && have_types ds ss
have_types _ _ = false

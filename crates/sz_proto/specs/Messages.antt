-- The value of a message, by its type, on the list of its fields.
use Rattle.std.specs.Prelude.{ℕ, pos, ◌+◌, List, [], ◌∷◌, map, Option, Some, None, false, nat_lt, if◌then◌else◌}
use Rattle.std.specs.Option.{option_and_then, option_map}
use Rattle.sz_types.specs.declared.encoding.Encoding.{Encoding}
use Rattle.sz_types.specs.Data.{Shape, FieldShapes, field, no_fields, with_field}
use Rattle.sz_types.specs.Data as shapes
use Rattle.sz_value.specs.Data.{Datum, data_of}
use Rattle.sz_value.specs.Data as values
use Rattle.sz_wire.specs.Field.{Content, Field, deepest}
use Rattle.sz_proto.specs.Payloads.{fields_of_all, occurrences, payloads}
use Rattle.sz_proto.specs.Elements.{numbers, truths, numbers_in, truths_in, texts_in, in_all, last_or}

-- the values of the elements of an array, each payload of a message by a function of its own
abbrev pub each_of : {A : Type 0} → (A → Datum) → Option (List A) → Option (List Datum)
each_of as_value found = option_map (map as_value) found

-- one answer for each payload, if each has one
unfoldable pub for_each : (List ℕ → Option Datum) → List (List ℕ) → Option (List Datum)
for_each value_of [] = Some []
for_each value_of (payload ∷ others) = option_and_then
    (λ (first : Datum). option_map (λ (more : List Datum). first ∷ more) (for_each value_of others)) (value_of payload)

-- the level of a message in a message of this level; those that are too deep are all alike
abbrev pub inside : ℕ → ℕ
inside depth = if nat_lt depth deepest then depth + 1 else deepest + 1

-- the message with these values of its fields, if each has one
abbrev pub tuple_of : Option (List Datum) → Option Datum
tuple_of parts = option_map (λ (found : List Datum). values.tuple (data_of found)) parts

-- the message that these payloads are together, at this level, by the value of its list of fields; where there is no
-- payload, all fields are missing, at any level
unfoldable pub message_in : (List Field → Option (List Datum)) → ℕ → List (List ℕ) → Option Datum
message_in values_of depth [] = tuple_of (values_of [])
message_in values_of depth (payload ∷ others) =
    if nat_lt deepest depth then None
    else option_and_then (λ (fields : List Field). tuple_of (values_of fields)) (fields_of_all depth (payload ∷ others))

unfoldable mutual
  -- the values of the fields of a message at this level
  pub values_of : FieldShapes → ℕ → List Field → Option (List Datum)
  values_of no_fields depth fields = Some []
  values_of (with_field (field name type number code) others) depth fields = option_and_then
      (λ (first : Datum). option_map (λ (more : List Datum). first ∷ more) (values_of others depth fields))
      (value_of type code depth (occurrences number fields))

  -- the value of a field, of which these are the occurrences in order: of a scalar the last one, or the value of a
  -- missing field;
  -- of a message all payloads together; of an array all elements
  pub value_of : Shape → Encoding → ℕ → List Content → Option Datum
  value_of shapes.truth code depth contents = Some (values.truth (last_or false (truths contents)))
  value_of shapes.int code depth contents = Some (values.int (last_or (pos 0) (numbers code contents)))
  value_of shapes.time code depth contents = Some (values.time (last_or (pos 0) (numbers code contents)))
  value_of shapes.str code depth contents =
      option_map (λ (found : List (List ℕ)). values.str (last_or [] found)) (in_all texts_in contents)
  value_of shapes.bytes code depth contents = Some (values.bytes (last_or [] (payloads contents)))
  value_of (shapes.proto inner) code depth contents =
      message_in (values_of inner (inside depth)) (inside depth) (payloads contents)
  value_of (shapes.array element) code depth contents =
      option_map (λ (found : List Datum). values.array (data_of found)) (elements_of element code depth contents)
  value_of (shapes.mapping key value) code depth contents = None
  value_of (shapes.tuple inner) code depth contents = None

  -- the elements that the occurrences hold, in order
  pub elements_of : Shape → Encoding → ℕ → List Content → Option (List Datum)
  elements_of shapes.truth code depth contents = each_of values.truth (in_all truths_in contents)
  elements_of shapes.int code depth contents = each_of values.int (in_all (numbers_in code) contents)
  elements_of shapes.time code depth contents = each_of values.time (in_all (numbers_in code) contents)
  elements_of shapes.str code depth contents = each_of values.str (in_all texts_in contents)
  elements_of shapes.bytes code depth contents = Some (map values.bytes (payloads contents))
  elements_of (shapes.proto inner) code depth contents =
      for_each (λ payload. message_in (values_of inner (inside depth)) (inside depth) (payload ∷ []))
      (payloads contents)
  elements_of (shapes.array element) code depth contents = None
  elements_of (shapes.mapping key value) code depth contents = None
  elements_of (shapes.tuple inner) code depth contents = None

-- the value of a message of this type; the outer message has level 1
unfoldable pub decoded : Shape → List ℕ → Option Datum
decoded (shapes.proto fields) bytes = message_in (values_of fields 1) 1 (bytes ∷ [])
decoded _ bytes = None

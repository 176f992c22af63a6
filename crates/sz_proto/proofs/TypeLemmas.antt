-- What is decoded has the type that it was decoded by.
use Rattle.std.proofs.Common.{◌≡◌, ℕ, List, [], ◌∷◌, map, Option, Some, None, IfSome, true, refl, sym, subst}
use Rattle.std.specs.Option.{option_and_then, option_map}
use Rattle.sz_types.specs.Data.{Shape, FieldShapes, field, no_fields, with_field}
use Rattle.sz_types.specs.Data as shapes
use Rattle.sz_types.specs.declared.encoding.Encoding.{Encoding}
use Rattle.sz_value.specs.Data.{Datum, data_of}
use Rattle.sz_value.specs.Data as values
use Rattle.sz_types.specs.Types.{has_type, all_have, parts_fit}
use Rattle.sz_wire.specs.Field.{Content, Field}
use Rattle.sz_proto.specs.Payloads.{payloads, occurrences}
use Rattle.sz_proto.specs.Elements.{in_all, truths_in, numbers_in, texts_in, last_or}
use Rattle.sz_proto.specs.Messages.{each_of, for_each, inside, tuple_of, message_in, values_of, value_of, elements_of, decoded}
use Rattle.sz_proto.specs.Found.{found_within}
use Rattle.sz_proto.specs.Laws.{HaveTheirType}
use Rattle.sz_proto.proofs.MessageLemmas.{message_found}

-- the value, if there is one, has the type
abbrev Typed : Option Datum → Shape → Type 0
Typed found type = IfSome found (λ d. has_type d type ≡ true)

-- the values, if there are some, have the types of the fields
abbrev Fitting : Option (List Datum) → FieldShapes → Type 0
Fitting found types = IfSome found (λ ds. parts_fit (data_of ds) types ≡ true)

-- each of the values, if there are some, has the type
abbrev AllTyped : Option (List Datum) → Shape → Type 0
AllTyped found type = IfSome found (λ ds. all_have (data_of ds) type ≡ true)

-- one more value
first_fits : (name : List ℕ) (type : Shape) (number : ℕ) (code : Encoding) (others : FieldShapes)
    (first : Option Datum) (rest : Option (List Datum)) → Typed first type → Fitting rest others
    → Fitting (option_and_then (λ (d : Datum). option_map (λ (more : List Datum). d ∷ more) rest) first)
    (with_field (field name type number code) others)
first_fits name type number code others None rest h k = tt
first_fits name type number code others (Some d) None h k = tt
first_fits name type number code others (Some d) (Some more) h k = rw (h, k) refl

first_has : (type : Shape) (first : Option Datum) (rest : Option (List Datum)) → Typed first type → AllTyped rest type
    → AllTyped (option_and_then (λ (d : Datum). option_map (λ (more : List Datum). d ∷ more) rest) first) type
first_has type None rest h k = tt
first_has type (Some d) None h k = tt
first_has type (Some d) (Some more) h k = rw (h, k) refl

-- messages
tuple_typed : (types : FieldShapes) (found : Option (List Datum)) → Fitting found types
    → Typed (tuple_of found) (shapes.proto types)
tuple_typed types None h = tt
tuple_typed types (Some ds) h = h

message_typed : (types : FieldShapes) (value : List Field → Option (List Datum))
    → ((fields : List Field) → Fitting (value fields) types)
    → (depth : ℕ) (ps : List (List ℕ)) → Typed (message_in value depth ps) (shapes.proto types)
message_typed types value fits depth ps =
    subst (λ found. Typed found (shapes.proto types)) (sym (message_found value depth ps))
    (by_fields (found_within depth ps))
  where
    by_fields : (found : Option (List Field))
        → Typed (option_and_then (λ (fields : List Field). tuple_of (value fields)) found) (shapes.proto types)
    by_fields None = tt
    by_fields (Some fields) = tuple_typed types (value fields) (fits fields)

-- arrays
each_has : {A : Type 0} (as_value : A → Datum) (type : Shape) → ((a : A) → has_type (as_value a) type ≡ true)
    → (xs : List A) → all_have (data_of (map as_value xs)) type ≡ true
each_has as_value type has [] = refl
each_has as_value type has (x ∷ xs) = rw (has x, each_has as_value type has xs) refl

all_typed : {A : Type 0} (as_value : A → Datum) (type : Shape) → ((a : A) → has_type (as_value a) type ≡ true)
    → (found : Option (List A)) → AllTyped (each_of as_value found) type
all_typed as_value type has None = tt
all_typed as_value type has (Some xs) = each_has as_value type has xs

messages_typed : (value : List ℕ → Option Datum) (type : Shape) → ((payload : List ℕ) → Typed (value payload) type)
    → (ps : List (List ℕ)) → AllTyped (for_each value ps) type
unfolding for_each
messages_typed value type has [] = refl
messages_typed value type has (p ∷ ps) =
    first_has type (value p) (for_each value ps) (has p) (messages_typed value type has ps)

array_typed : (type : Shape) (found : Option (List Datum)) → AllTyped found type
    → Typed (option_map (λ (parts : List Datum). values.array (data_of parts)) found) (shapes.array type)
array_typed type None h = tt
array_typed type (Some ds) h = h

text_typed : (found : Option (List (List ℕ)))
    → Typed (option_map (λ (texts : List (List ℕ)). values.str (last_or [] texts)) found) shapes.str
text_typed None = tt
text_typed (Some texts) = refl

mutual
  unfolding values_of value_of elements_of

  -- the values of the fields of a message
  values_fit : (types : FieldShapes) (depth : ℕ) (fields : List Field) → Fitting (values_of types depth fields) types
  values_fit no_fields depth fields = refl
  values_fit (with_field (field name type number code) others) depth fields =
      first_fits name type number code others (value_of type code depth (occurrences number fields))
      (values_of others depth fields)
      (value_typed type code depth (occurrences number fields)) (values_fit others depth fields)

  -- the value of a field
  value_typed : (type : Shape) (code : Encoding) (depth : ℕ) (contents : List Content)
      → Typed (value_of type code depth contents) type
  value_typed shapes.truth code depth contents = refl
  value_typed shapes.int code depth contents = refl
  value_typed shapes.time code depth contents = refl
  value_typed shapes.str code depth contents = text_typed (in_all texts_in contents)
  value_typed shapes.bytes code depth contents = refl
  value_typed (shapes.proto inner) code depth contents =
      message_typed inner (values_of inner (inside depth)) (values_fit inner (inside depth)) (inside depth)
      (payloads contents)
  value_typed (shapes.array element) code depth contents =
      array_typed element (elements_of element code depth contents) (elements_typed element code depth contents)
  value_typed (shapes.mapping key value) code depth contents = tt
  value_typed (shapes.tuple inner) code depth contents = tt

  -- the elements of an array
  elements_typed : (type : Shape) (code : Encoding) (depth : ℕ) (contents : List Content)
      → AllTyped (elements_of type code depth contents) type
  elements_typed shapes.truth code depth contents =
      all_typed values.truth shapes.truth (λ b. refl) (in_all truths_in contents)
  elements_typed shapes.int code depth contents =
      all_typed values.int shapes.int (λ n. refl) (in_all (numbers_in code) contents)
  elements_typed shapes.time code depth contents =
      all_typed values.time shapes.time (λ n. refl) (in_all (numbers_in code) contents)
  elements_typed shapes.str code depth contents =
      all_typed values.str shapes.str (λ text. refl) (in_all texts_in contents)
  elements_typed shapes.bytes code depth contents =
      each_has values.bytes shapes.bytes (λ octets. refl) (payloads contents)
  elements_typed (shapes.proto inner) code depth contents =
      messages_typed (λ payload. message_in (values_of inner (inside depth)) (inside depth) (payload ∷ []))
      (shapes.proto inner) (λ payload. message_typed inner (values_of inner (inside depth))
      (values_fit inner (inside depth)) (inside depth) (payload ∷ [])) (payloads contents)
  elements_typed (shapes.array element) code depth contents = tt
  elements_typed (shapes.mapping key value) code depth contents = tt
  elements_typed (shapes.tuple inner) code depth contents = tt

pub values_have_their_type : HaveTheirType
unfolding decoded
values_have_their_type (shapes.proto inner) bytes =
    message_typed inner (values_of inner 1) (values_fit inner 1) 1 (bytes ∷ [])
values_have_their_type shapes.truth bytes = tt
values_have_their_type shapes.int bytes = tt
values_have_their_type shapes.time bytes = tt
values_have_their_type shapes.str bytes = tt
values_have_their_type shapes.bytes bytes = tt
values_have_their_type (shapes.array element) bytes = tt
values_have_their_type (shapes.mapping key value) bytes = tt
values_have_their_type (shapes.tuple inner) bytes = tt

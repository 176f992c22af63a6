-- The values of a message by its fields.
use Rattle.std.proofs.Common.{◌≡◌, ℕ, zero, suc, ◌+◌, ◌-◌, ◌<◌, ◌≤◌, List, [], ◌∷◌, ◌++◌, length, drop, map, get_or, Option, Some, None, Bool, true, false, ◌==◌, cond, nat_lt, refl, sym, ap, ◌∙◌, arith, Box, Global}
use Rattle.std.specs.Option.{option_and_then, option_map}
use Rattle.std.proofs.lemmas.List.{drop_all, at_drop_more, take_all}
use Rattle.sz_types.specs.Data.{Shape, FieldShapes, field, no_fields, with_field, fields_of}
use Rattle.sz_types.specs.Data as shapes
use Rattle.sz_types.specs.Seen.{seen, seen_field, seen_fields}
use Rattle.sz_types.specs.declared.ty.Ty.{Ty}
use Rattle.sz_types.specs.declared.ty.Ty.TheVariants.{Array, Proto}
use Rattle.sz_types.specs.declared.ty.Fields.{Fields}
use Rattle.sz_types.proofs.ForCallers.{seen_proto, seen_array}
use Rattle.sz_value.specs.declared.slots.Slot.{Slot}
use Rattle.sz_value.specs.Seen.{seen_slot}
use Rattle.sz_wire.specs.declared.field.WireKind.{WireKind}
use Rattle.sz_wire.specs.declared.field.WireKind.TheVariants as kinds
use Rattle.sz_types.specs.declared.ty.Field.{Field}
use Rattle.sz_value.specs.Data.{Datum}
use Rattle.sz_wire.specs.declared.field.WireField.{WireField}
use Rattle.sz_wire.specs.Field as wire
use Rattle.sz_wire.specs.Field.{Content, varint, eight, four, span, group, content_in, field_in, deepest}
use Rattle.sz_proto.specs.Payloads.{occurrences, payloads, fields_of_all}
use Rattle.sz_proto.specs.Elements.{in_all}
use Rattle.sz_proto.specs.Messages.{tuple_of, for_each, message_in, values_of, value_of}
use Rattle.sz_proto.specs.Found.{contents, with_number, found_within, message_each, IsOrdered}
use Rattle.sz_proto.proofs.GoingLemmas.{Goes, goes_on, goes_end}
use Rattle.sz_proto.proofs.ReadingLemmas.{skipped}

-- what the fields of a number hold
pub occurrences_found : (bytes : List ℕ) (number : ℕ) (fs : List WireField)
    → occurrences number (map (field_in bytes) fs) ≡ contents bytes (with_number number fs)
unfolding occurrences
occurrences_found bytes number [] = refl
occurrences_found bytes number (f ∷ fs) = by_number (f.number == number) (occurrences_found bytes number fs)
  where
    by_number : (is : Bool) → occurrences number (map (field_in bytes) fs) ≡ contents bytes (with_number number fs)
        → cond is (content_in bytes f.kind ∷ occurrences number (map (field_in bytes) fs))
        (occurrences number (map (field_in bytes) fs))
        ≡ contents bytes (cond is (f ∷ with_number number fs) (with_number number fs))
    by_number true h = ap (λ (cs : List Content). content_in bytes f.kind ∷ cs) h
    by_number false h = h

-- lists of fields with the same occurrences have the same values
values_alike : (types : FieldShapes) (depth : ℕ) (fs gs : List wire.Field)
    → ((number : ℕ) → occurrences number fs ≡ occurrences number gs)
    → values_of types depth fs ≡ values_of types depth gs
unfolding values_of
values_alike no_fields depth fs gs same = refl
values_alike (with_field (field name type number code) others) depth fs gs same =
    rw (same number, values_alike others depth fs gs same) refl

pub ordered_values : (types : FieldShapes) (depth len : ℕ) (bytes : List ℕ) (read found : List WireField)
    → IsOrdered len read found
    → values_of types depth (map (field_in bytes) found) ≡ values_of types depth (map (field_in bytes) read)
ordered_values types depth len bytes read found h =
    values_alike types depth (map (field_in bytes) found) (map (field_in bytes) read)
    (λ number. occurrences_found bytes number found ∙ ap (contents bytes) (h.same number)
    ∙ sym (occurrences_found bytes number read))

-- the message with the fields that were found, if there are some
pub message_found : (value_of : List wire.Field → Option (List Datum)) (depth : ℕ) (ps : List (List ℕ))
    → message_in value_of depth ps
    ≡ option_and_then (λ (fields : List wire.Field). tuple_of (value_of fields)) (found_within depth ps)
unfolding message_in found_within
message_found value_of depth [] = refl
message_found value_of depth (p ∷ ps) = by_level (nat_lt deepest depth)
  where
    by_level : (deep : Bool) → cond deep None
        (option_and_then (λ (fields : List wire.Field). tuple_of (value_of fields)) (fields_of_all depth (p ∷ ps)))
        ≡ option_and_then (λ (fields : List wire.Field). tuple_of (value_of fields))
        (cond deep None (fields_of_all depth (p ∷ ps)))
    by_level true = refl
    by_level false = refl

-- the values of the fields from a place of the type on
abbrev pub ValuesFrom : (types : List Field) (depth : ℕ) (found : List wire.Field) → ℕ → List Datum → Type 0
ValuesFrom types depth found i got =
    Goes (values_of (fields_of (map seen_field types)) depth found) got
    (values_of (fields_of (map seen_field (drop i types))) depth found)

next_values : (types : List Field) (depth : ℕ) (found : List wire.Field) (i : ℕ) (f : Field) → i < length types
    → f ≡ get_or types i f → values_of (fields_of (map seen_field (drop i types))) depth found ≡ option_and_then
    (λ (first : Datum). option_map (λ (more : List Datum). first ∷ more)
    (values_of (fields_of (map seen_field (drop (i + 1) types))) depth found))
    (value_of (seen f.ty) f.code depth (occurrences f.number found))
unfolding values_of
next_values types depth found i f lt is =
    at_drop_more (λ fs. values_of (fields_of (map seen_field fs)) depth found) types i f lt
    ∙ ap (λ (x : Field). values_of (fields_of (map seen_field (x ∷ drop (i + 1) types))) depth found) (sym is)

pub value_more : (types : List Field) (depth : ℕ) (found : List wire.Field) (i : ℕ) (f : Field)
    (got : List Datum) (one : Datum) → ValuesFrom types depth found i got → i < length types → f ≡ get_or types i f
    → value_of (seen f.ty) f.code depth (occurrences f.number found) ≡ Some one
    → ValuesFrom types depth found (i + 1) (got ++ one ∷ [])
value_more types depth found i f got one h lt is found_one =
    let rest = values_of (fields_of (map seen_field (drop (i + 1) types))) depth found in
    let next : values_of (fields_of (map seen_field (drop i types))) depth found
    ≡ option_map (λ (more : List Datum). one ∷ more) rest =
    rw found_one at (next_values types depth found i f lt is) in
    goes_on (values_of (fields_of (map seen_field types)) depth found) rest got (one ∷ [])
    (h ∙ ap (option_map (λ more. got ++ more)) next)

pub value_none : (types : List Field) (depth : ℕ) (found : List wire.Field) (i : ℕ) (f : Field) (got : List Datum)
    → ValuesFrom types depth found i got → i < length types → f ≡ get_or types i f
    → value_of (seen f.ty) f.code depth (occurrences f.number found) ≡ None
    → values_of (fields_of (map seen_field types)) depth found ≡ None
value_none types depth found i f got h lt is found_none =
    let next : values_of (fields_of (map seen_field (drop i types))) depth found ≡ None =
    rw found_none at (next_values types depth found i f lt is) in
    h ∙ ap (option_map (λ more. got ++ more)) next

pub values_end : (types : List Field) (depth : ℕ) (found : List wire.Field) (i : ℕ) (got : List Datum)
    → ValuesFrom types depth found i got → length types ≤ i
    → values_of (fields_of (map seen_field types)) depth found ≡ Some got
unfolding values_of
values_end types depth found i got h over = goes_end (values_of (fields_of (map seen_field types)) depth found) got
    (h ∙ ap (λ (fs : List Field).
    option_map (λ more. got ++ more) (values_of (fields_of (map seen_field fs)) depth found)) (drop_all i types over))

pub messages_each : (value_of : List ℕ → Option Datum) (cs : List Content)
    → in_all (message_each value_of) cs ≡ for_each value_of (payloads cs)
unfolding in_all for_each payloads
messages_each value_of [] = refl
messages_each value_of (varint n ∷ cs) = skipped (in_all (message_each value_of) cs) ∙ messages_each value_of cs
messages_each value_of (eight n ∷ cs) = skipped (in_all (message_each value_of) cs) ∙ messages_each value_of cs
messages_each value_of (four n ∷ cs) = skipped (in_all (message_each value_of) cs) ∙ messages_each value_of cs
messages_each value_of (group ∷ cs) = skipped (in_all (message_each value_of) cs) ∙ messages_each value_of cs
messages_each value_of (span p ∷ cs) = by_one (value_of p) (messages_each value_of cs)
  where
    by_one : (one : Option Datum) → in_all (message_each value_of) cs ≡ for_each value_of (payloads cs)
        → option_and_then (λ first. option_map (λ more. first ++ more) (in_all (message_each value_of) cs))
        (option_map (λ (d : Datum). d ∷ []) one)
        ≡ option_and_then
        (λ (first : Datum). option_map (λ (more : List Datum). first ∷ more) (for_each value_of (payloads cs))) one
    by_one None h = refl
    by_one (Some d) h = ap (option_map (λ more. d ∷ more)) h

unfoldable mutual
  -- how many types and fields a type is built from
  pub shape_size : Shape → ℕ
  shape_size shapes.truth = 0
  shape_size shapes.int = 0
  shape_size shapes.time = 0
  shape_size shapes.str = 0
  shape_size shapes.bytes = 0
  shape_size (shapes.array element) = suc (shape_size element)
  shape_size (shapes.mapping key value) = 0
  shape_size (shapes.tuple fields) = 0
  shape_size (shapes.proto fields) = suc (fields_size fields)

  pub fields_size : FieldShapes → ℕ
  fields_size no_fields = 0
  fields_size (with_field (field name type number code) others) = suc (shape_size type + fields_size others)

-- a field's type is smaller than the fields
pub field_smaller : (types : List Field) (i : ℕ) (f : Field) → i < length types → f ≡ get_or types i f
    → shape_size (seen f.ty) < fields_size (fields_of (map seen_field types))
unfolding shape_size fields_size
field_smaller [] i f lt is = absurd (omega (arith, lt))
field_smaller (g ∷ types) zero f lt is = rw is (omega arith)
field_smaller (g ∷ types) (suc i) f lt is = let h = field_smaller types i f (omega (arith, lt)) is in omega (arith, h)

pub proto_size : (ty : Ty) (fields : Fields) (list : List Field) → ty ≡ Proto fields
    → map seen_field list ≡ seen_fields fields
    → shape_size (seen ty) ≡ suc (fields_size (fields_of (map seen_field list)))
unfolding shape_size
proto_size ty fields list is same = ap (λ (t : Ty). shape_size (seen t)) is ∙ ap shape_size (seen_proto fields)
    ∙ ap (λ fs. suc (fields_size (fields_of fs))) (sym same)

pub array_size : (ty : Ty) (element : Box Ty Global) → ty ≡ Array element
    → shape_size (seen ty) ≡ suc (shape_size (seen element.value))
unfolding shape_size
array_size ty element is = ap (λ (t : Ty). shape_size (seen t)) is ∙ ap shape_size (seen_array element)

-- the value of a field that was found
pub value_found : (bytes : List ℕ) (found run : List WireField) (f : Field) (depth : ℕ) (slot : Slot)
    → run ≡ with_number f.number found → seen_slot slot ≡ value_of (seen f.ty) f.code depth (contents bytes run)
    → value_of (seen f.ty) f.code depth (occurrences f.number (map (field_in bytes) found)) ≡ seen_slot slot
value_found bytes found run f depth slot is value =
    ap (value_of (seen f.ty) f.code depth) (occurrences_found bytes f.number found ∙ ap (contents bytes) (sym is))
    ∙ sym value

-- the message whose fields were found
pub message_is : (types : FieldShapes) (depth len : ℕ) (bytes : List ℕ) (ps : List (List ℕ))
    (read found : List WireField)
    → found_within depth ps ≡ Some (map (field_in bytes) read) → IsOrdered len read found
    → message_in (values_of types depth) depth ps ≡ tuple_of (values_of types depth (map (field_in bytes) found))
message_is types depth len bytes ps read found is h = message_found (values_of types depth) depth ps
    ∙ ap (option_and_then (λ (fields : List wire.Field). tuple_of (values_of types depth fields))) is
    ∙ ap tuple_of (sym (ordered_values types depth len bytes read found h))

pub message_none : (types : FieldShapes) (depth : ℕ) (ps : List (List ℕ)) → found_within depth ps ≡ None
    → message_in (values_of types depth) depth ps ≡ None
message_none types depth ps is = message_found (values_of types depth) depth ps
    ∙ ap (option_and_then (λ (fields : List wire.Field). tuple_of (values_of types depth fields))) is

-- a message alone is its own payload
pub whole_payload : (bytes : List ℕ)
    → payloads (contents bytes (record { number = 1; kind = kinds.Span 0 (length bytes); next = length bytes } ∷ []))
    ≡ bytes ∷ []
unfolding payloads
whole_payload bytes = ap (λ (p : List ℕ). p ∷ []) (take_all (length bytes - 0) bytes (omega arith))

-- the message that one occurrence holds
pub one_message : (types : FieldShapes) (depth : ℕ) (bytes : List ℕ) (kind : WireKind) (from to : ℕ) (slot : Slot)
    → kind ≡ kinds.Span from to
    → seen_slot slot ≡ message_in (values_of types depth) depth (payloads (content_in bytes kind ∷ []))
    → message_each (λ payload. message_in (values_of types depth) depth (payload ∷ [])) (content_in bytes kind)
    ≡ option_map (λ (one : Datum). one ∷ []) (seen_slot slot)
unfolding payloads
one_message types depth bytes kind from to slot is value =
    rw is (ap (option_map (λ (one : Datum). one ∷ [])) (sym (rw is at value)))

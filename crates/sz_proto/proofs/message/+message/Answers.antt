use Rattle.std.proofs.Common.{◌≡◌, ◌+◌, ◌∷◌, [], List, ℕ, ℤ, Bool, Some, None, Option, length, map, to_z, of_z, w64, rules, arith, sym, ap, subst, ◌∙◌, refl}
use Rattle.std.proofs.lemmas.List.{map-append}
use Rattle.std.proofs.lemmas.List.Elements.{All-filter}
use Rattle.sz_types.specs.Data.{fields_of}
use Rattle.sz_types.specs.Seen as types
use Rattle.sz_types.proofs.ForCallers.{seen_bool, seen_int, seen_time, seen_str, seen_bytes, seen_array, seen_map, seen_tuple, seen_proto}
use Rattle.sz_value.specs.Data as values
use Rattle.sz_value.specs.Data.{Datum}
use Rattle.sz_value.specs.Seen.{seen, seen_slot}
use Rattle.sz_value.specs.declared.slots.Slot.{Slot}
use Rattle.std.specs.Option.{option_map}
use Rattle.sz_wire.specs.declared.field.WireField.{WireField}
use Rattle.sz_wire.specs.Field.{field_in, LiesBefore}
use Rattle.sz_proto.specs.Payloads.{payloads}
use Rattle.sz_proto.specs.Elements.{in_all}
use Rattle.sz_proto.specs.Messages.{tuple_of, message_in, values_of, value_of, elements_of}
use Rattle.sz_proto.specs.Found.{contents, array_of, message_each, AreFound}
use Rattle.sz_proto.proofs.GoingLemmas.{from_taken, from_left, from_end}
use Rattle.sz_proto.proofs.ElementLemmas.{all_octets}
use Rattle.sz_proto.proofs.MessageLemmas.{ValuesFrom, value_more, value_none, values_end, value_found, message_is, message_none, messages_each, one_message, field_smaller, proto_size, array_size, shape_size}
use Rattle.sz_proto.proofs.message.+message.Goals as goal

-- what a call asks for: the type is smaller, the occurrences lie in the bytes, and the level is one
pub value-message-requires : goal.value-message-requires
value-message-requires t c =
    let size =
    proto_size c.args.ty.now c.in-Proto.fields c.as_slice.result.now c.in-Proto.is c.as_slice.ensures.value in
    (omega (arith, size, c.decreases), (c.requires.within, c.inside.ensures.level))

pub value-elements-requires : goal.value-elements-requires
value-elements-requires t c =
    let size = array_size c.args.ty.now c.in-Array.element c.in-Array.is in
    let same = ap (λ ty. shape_size (types.seen ty)) c.deref.ensures in
    (omega (arith, size, same, c.decreases), (c.requires.within, c.requires.level))

pub elements-messages-requires : goal.elements-messages-requires
elements-messages-requires t c =
    let size =
    proto_size c.args.element.now c.in-Proto.fields c.as_slice.result.now c.in-Proto.is c.as_slice.ensures.value in
    (omega (arith, size, c.decreases), (c.requires.within, c.inside.ensures.level))

pub values-value-requires : goal.values-value-requires
values-value-requires t c =
    let smaller = field_smaller c.args.fields.now c.loop-field.field-index c.field-item.result c.loop-field-test.true
    c.field-item.is in (
      omega (arith, smaller, c.decreases),
      (
        rw c.occurrences-run.ensures.value (All-filter _
            (λ (f : WireField). LiesBefore (length c.args.bytes.now) f.kind) c.args.found.now c.requires.within),
        c.requires.level,
      ),
    )

pub value-returns-in-Bool : goal.value-returns-in-Bool
unfolding value_of
value-returns-in-Bool t c = record {
  value = rw (c.in-Bool.is, seen_bool)
      (ap (λ (b : Bool). Some (values.truth b)) (c.last_truth.ensures.value c.args.bytes.now));
}

pub value-returns-in-Int : goal.value-returns-in-Int
unfolding value_of
value-returns-in-Int t c =
    let back : to_z w64 (of_z w64 c.last_number.result) ≡ c.last_number.result = search rules in
    record {
      value = rw (c.in-Int.is, seen_int)
          (ap (λ (n : ℤ). Some (values.int n)) (back ∙ c.last_number.ensures.value c.args.bytes.now));
    }

pub value-returns-in-Time : goal.value-returns-in-Time
unfolding value_of
value-returns-in-Time t c =
    let back : to_z w64 (of_z w64 c.last_number-in-Time.result) ≡ c.last_number-in-Time.result = search rules in
    record {
      value = rw (c.in-Time.is, seen_time)
          (ap (λ (n : ℤ). Some (values.time n)) (back ∙ c.last_number-in-Time.ensures.value c.args.bytes.now));
    }

pub value-returns-in-Str : goal.value-returns-in-Str
unfolding value_of
value-returns-in-Str t c = record { value = rw (c.in-Str.is, seen_str) c.last_text.ensures.value }

pub value-returns-in-Bytes : goal.value-returns-in-Bytes
unfolding value_of
value-returns-in-Bytes t c = record { value = rw (c.in-Bytes.is, seen_bytes) c.last_octets.ensures.value }

pub value-returns-in-Proto : goal.value-returns-in-Proto
unfolding value_of
value-returns-in-Proto t c = record {
  value = rw (c.in-Proto.is, seen_proto c.in-Proto.fields)
      (rw (c.as_slice.ensures.value, c.inside.ensures.value) at c.message.ensures.value);
}

pub value-returns-in-Array : goal.value-returns-in-Array
unfolding value_of
value-returns-in-Array t c = record {
  value = rw (c.in-Array.is, seen_array c.in-Array.element) (rw c.deref.ensures at c.elements.ensures.value);
}

pub value-returns-in-Map : goal.value-returns-in-Map
unfolding value_of
value-returns-in-Map t c = record { value = rw (c.in-Map.is, seen_map _ _) refl }

pub value-returns-in-Tuple : goal.value-returns-in-Tuple
unfolding value_of
value-returns-in-Tuple t c = record { value = rw (c.in-Tuple.is, seen_tuple _) refl }

pub elements-returns-in-Bool : goal.elements-returns-in-Bool
unfolding elements_of
elements-returns-in-Bool t c = record { value = rw (c.in-Bool.is, seen_bool) c.truths.ensures.value }

pub elements-returns-in-Int : goal.elements-returns-in-Int
unfolding elements_of
elements-returns-in-Int t c = record { value = rw (c.in-Int.is, seen_int) c.numbers.ensures.value }

pub elements-returns-in-Time : goal.elements-returns-in-Time
unfolding elements_of
elements-returns-in-Time t c = record { value = rw (c.in-Time.is, seen_time) c.numbers-in-Time.ensures.value }

pub elements-returns-in-Str : goal.elements-returns-in-Str
unfolding elements_of
elements-returns-in-Str t c = record { value = rw (c.in-Str.is, seen_str) c.texts.ensures.value }

pub elements-returns-in-Bytes : goal.elements-returns-in-Bytes
unfolding elements_of
elements-returns-in-Bytes t c = record {
  value = rw (c.in-Bytes.is, seen_bytes)
      (rw (all_octets (contents c.args.bytes.now c.args.run.now)) at c.octets.ensures.value);
}

pub elements-returns-in-Proto : goal.elements-returns-in-Proto
unfolding elements_of
elements-returns-in-Proto t c = record {
  value = rw (c.in-Proto.is, seen_proto c.in-Proto.fields)
      (rw (c.as_slice.ensures.value, c.inside.ensures.value) at c.messages.ensures.value);
}

pub elements-returns-in-Array : goal.elements-returns-in-Array
unfolding elements_of
elements-returns-in-Array t c = record { value = rw (c.in-Array.is, seen_array _) refl }

pub elements-returns-in-Map : goal.elements-returns-in-Map
unfolding elements_of
elements-returns-in-Map t c = record { value = rw (c.in-Map.is, seen_map _ _) refl }

pub elements-returns-in-Tuple : goal.elements-returns-in-Tuple
unfolding elements_of
elements-returns-in-Tuple t c = record { value = rw (c.in-Tuple.is, seen_tuple _) refl }

-- the message by the fields that were found
pub message-returns-in-Some : goal.message-returns-in-Some
message-returns-in-Some t c =
    let bytes = c.args.bytes.now in
    let ps = payloads (contents bytes c.args.run.now) in
    let found : AreFound bytes c.args.depth ps (length bytes) (Some c.in-Some.found) =
    rw c.in-Some.is at c.in_ok-found.ensures.value in
    let here = message_is (fields_of (map types.seen_field c.args.fields.now)) c.args.depth (length bytes) bytes ps
    found.0 c.in-Some.found.items found.1 found.2 in
    record { value = rw here (rw c.as_slice.ensures.value at c.values.ensures.value) }

pub message-returns-in-None : goal.message-returns-in-None
message-returns-in-None t c =
    let bytes = c.args.bytes.now in
    let ps = payloads (contents bytes c.args.run.now) in
    let none : AreFound bytes c.args.depth ps (length bytes) None = rw c.in-None.is at c.in_ok-found.ensures.value in
    record { value = sym (message_none (fields_of (map types.seen_field c.args.fields.now)) c.args.depth ps none) }

-- the values of the fields, one after another
pub values-returns-in-Undefined : goal.values-returns-in-Undefined
values-returns-in-Undefined t c =
    let bytes = c.args.bytes.now in
    let f = c.field-item.result in
    let none = value_found bytes c.args.found.now c.occurrences-run.result.now f
    c.args.depth c.in_ok-value.field-0 c.occurrences-run.ensures.value c.in_ok-value.ensures.value
    ∙ ap seen_slot c.in-Undefined.is in
    record {
      value = sym (ap tuple_of (value_none c.args.fields.now c.args.depth (map (field_in bytes) c.args.found.now)
          c.loop-field.field-index f (map seen c.loop-field.values.items)
          c.loop-field.invariant c.loop-field-test.true c.field-item.is none));
    }

pub values-loop-field-preserved : goal.values-loop-field-preserved
values-loop-field-preserved t c =
    let bytes = c.args.bytes.now in
    let f = c.field-item.result in
    let fs = map (field_in bytes) c.args.found.now in
    let one = value_found bytes c.args.found.now c.occurrences-run.result.now f
    c.args.depth c.in_ok-value.field-0 c.occurrences-run.ensures.value c.in_ok-value.ensures.value
    ∙ ap seen_slot c.in-Defined.is in
    subst (ValuesFrom c.args.fields.now c.args.depth fs (c.loop-field.field-index + 1))
    (sym (ap (map seen) c.in_ok-push-in-Defined.ensures.items
    ∙ map-append seen c.loop-field.values.items (c.in-Defined.value ∷ [])))
    (value_more c.args.fields.now c.args.depth fs c.loop-field.field-index f (map seen c.loop-field.values.items)
    (seen c.in-Defined.value) c.loop-field.invariant c.loop-field-test.true c.field-item.is one)

pub values-returns : goal.values-returns
values-returns t c = record {
  value = sym (ap tuple_of (values_end c.args.fields.now c.args.depth
      (map (field_in c.args.bytes.now) c.args.found.now) c.loop-field.field-index
      (map seen c.loop-field.values.items) c.loop-field.invariant c.loop-field-test.false)
      ∙ ap (λ (ds : List Datum). Some (values.tuple (values.data_of ds))) (sym c.from_vec.ensures.value));
}

-- the message that an occurrence holds
pub add_message-returns-in-Undefined : goal.add_message-returns-in-Undefined
add_message-returns-in-Undefined t c = record {
  value = one_message (fields_of (map types.seen_field c.args.fields.now))
      c.args.depth c.args.bytes.now c.args.field.kind c.in-Span.field-0 c.in-Span.field-1
      c.in_ok-value-in-Span.field-0 c.in-Span.is c.in_ok-value-in-Span.ensures.value
      ∙ ap (λ (s : Slot). option_map (λ (d : Datum). d ∷ []) (seen_slot s)) c.in-Undefined.is;
}

pub add_message-returns-in_ok-push-in-Defined : goal.add_message-returns-in_ok-push-in-Defined
add_message-returns-in_ok-push-in-Defined t c = record {
  value = (
    seen c.in-Defined.value ∷ [],
    one_message (fields_of (map types.seen_field c.args.fields.now))
        c.args.depth c.args.bytes.now c.args.field.kind c.in-Span.field-0 c.in-Span.field-1
        c.in_ok-value-in-Span.field-0 c.in-Span.is c.in_ok-value-in-Span.ensures.value
        ∙ ap (λ (s : Slot). option_map (λ (d : Datum). d ∷ []) (seen_slot s)) c.in-Defined.is,
    rw c.in_ok-push-in-Defined.ensures.items (map-append seen c.args.elements.now.items _),
  );
}

-- the messages, one after another
pub messages-loop-field-preserved : goal.messages-loop-field-preserved
messages-loop-field-preserved t c =
    let one = message_each (λ payload. message_in
    (values_of (fields_of (map types.seen_field c.args.fields.now)) c.args.depth) c.args.depth (payload ∷ [])) in
    from_taken one c.args.bytes.now c.args.run.now (in_all one (contents c.args.bytes.now c.args.run.now))
    c.loop-field.field-index _ _ _ _
    c.loop-field.invariant c.loop-field-test.true c.if-not-branch.false c.in_ok-add_message.ensures.value

pub messages-returns-then-not-branch : goal.messages-returns-then-not-branch
messages-returns-then-not-branch t c =
    let value : List ℕ → Option Datum = (λ payload. message_in
    (values_of (fields_of (map types.seen_field c.args.fields.now)) c.args.depth) c.args.depth (payload ∷ [])) in
    let cs = contents c.args.bytes.now c.args.run.now in
    let none = from_left (message_each value) c.args.bytes.now c.args.run.now (in_all (message_each value) cs)
    c.loop-field.field-index _ _ _ _
    c.loop-field.invariant c.loop-field-test.true c.if-not-branch.true c.in_ok-add_message.ensures.value in
    record { value = sym (ap array_of (sym (messages_each value cs) ∙ none)) }

pub messages-returns : goal.messages-returns
messages-returns t c =
    let value : List ℕ → Option Datum = (λ payload. message_in
    (values_of (fields_of (map types.seen_field c.args.fields.now)) c.args.depth) c.args.depth (payload ∷ [])) in
    let cs = contents c.args.bytes.now c.args.run.now in
    let all = from_end (message_each value) c.args.bytes.now c.args.run.now (in_all (message_each value) cs)
    c.loop-field.field-index _ c.loop-field.invariant c.loop-field-test.false in
    record { value = c.array.ensures.value ∙ sym (ap array_of (sym (messages_each value cs) ∙ all)) }

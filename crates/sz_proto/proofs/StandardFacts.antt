-- Messages with the values that they were made to have.
use Rattle.std.proofs.Common.{◌≡◌, pos, [], ◌∷◌, Some, None, refl}
use Rattle.sz_types.specs.declared.encoding.Encoding.TheVariants as codes
use Rattle.sz_types.specs.Data.{Shape, field, no_fields, with_field}
use Rattle.sz_types.specs.Data as shapes
use Rattle.sz_value.specs.Data.{data_of}
use Rattle.sz_value.specs.Data as values
use Rattle.sz_wire.specs.Varint.{number_at, varint_at}
use Rattle.sz_wire.specs.Key.{key_at}
use Rattle.sz_wire.specs.Field.{bytes_at, fixed_at, span_at, plain_at, value_end, group_end, value_at, field_at}
use Rattle.sz_proto.specs.Payloads.{fields_within, fields_of_all, occurrences, payloads}
use Rattle.sz_proto.specs.Elements.{packed_within, truths_of, in_all, last_or, numbers, truths}
use Rattle.sz_proto.specs.Messages.{for_each, message_in, values_of, value_of, elements_of, decoded}

-- a whole number and whole numbers
abbrev pair : Shape
pair = shapes.proto (with_field (field [] shapes.int 1 codes.Plain)
    (with_field (field [] (shapes.array shapes.int) 2 codes.Plain) no_fields))

-- the last number counts, packed and single elements are joined, a group and a text in a number's place are passed over
last_number_and_all_elements : decoded pair
    (8 ∷ 5 ∷ 8 ∷ 7 ∷ 18 ∷ 2 ∷ 1 ∷ 2 ∷ 16 ∷ 3 ∷ 43 ∷ 8 ∷ 1 ∷ 44 ∷ 10 ∷ 1 ∷ 120 ∷ [])
    ≡ Some (values.tuple (data_of (values.int (pos 7)
    ∷ values.array (data_of (values.int (pos 1) ∷ values.int (pos 2) ∷ values.int (pos 3) ∷ [])) ∷ [])))
unfolding number_at varint_at key_at bytes_at fixed_at span_at plain_at value_end group_end value_at field_at
    fields_within fields_of_all occurrences payloads packed_within truths_of in_all last_or numbers truths for_each
    message_in values_of value_of elements_of decoded
last_number_and_all_elements = refl

-- a key without its value is no field
no_field : decoded pair (8 ∷ []) ≡ None
unfolding number_at varint_at key_at bytes_at fixed_at span_at plain_at value_end group_end value_at field_at
    fields_within fields_of_all occurrences payloads packed_within truths_of in_all last_or numbers truths for_each
    message_in values_of value_of elements_of decoded
no_field = refl

-- a message with a message
abbrev outer : Shape
outer = shapes.proto (with_field (field [] pair 3 codes.Plain) no_fields)

-- two halves that are lists of fields only together are no message
spliced_halves : decoded outer (26 ∷ 1 ∷ 8 ∷ 26 ∷ 1 ∷ 5 ∷ []) ≡ None
unfolding number_at varint_at key_at bytes_at fixed_at span_at plain_at value_end group_end value_at field_at
    fields_within fields_of_all occurrences payloads packed_within truths_of in_all last_or numbers truths for_each
    message_in values_of value_of elements_of decoded
spliced_halves = refl

-- two payloads of one message are joined
joined_payloads : decoded outer (26 ∷ 2 ∷ 8 ∷ 5 ∷ 26 ∷ 2 ∷ 16 ∷ 4 ∷ [])
    ≡ Some (values.tuple (data_of
    (values.tuple (data_of (values.int (pos 5) ∷ values.array (data_of (values.int (pos 4) ∷ [])) ∷ [])) ∷ [])))
unfolding number_at varint_at key_at bytes_at fixed_at span_at plain_at value_end group_end value_at field_at
    fields_within fields_of_all occurrences payloads packed_within truths_of in_all last_or numbers truths for_each
    message_in values_of value_of elements_of decoded
joined_payloads = refl

-- A field's type is no higher than the highest, and a type with fields begins with its kind and their number.
use Rattle.std.proofs.Common.{◌∙◌, true, false, map, sym, ap, arith}
use Rattle.std.proofs.lemmas.List.{length-map}
use Rattle.sz_types.specs.Seen.{seen, seen_field}
use Rattle.sz_flat.proofs.WritingLemmas.{on_one}
use Rattle.sz_save_format.specs.Types.{type_bytes}
use Rattle.sz_save_format.proofs.ReadLemmas.{field_low}
use Rattle.sz_save_format.proofs.WritingLemmas.{tuple_bytes, proto_bytes, fields_put}
use Rattle.sz_save_format.proofs.put.+put.Goals as goal

pub put_each_field-put_field-requires : goal.put_each_field-put_field-requires
put_each_field-put_field-requires t c =
    let low =
    field_low c.args.fields.now c.loop-field.field-index c.field-item.result c.loop-field-test.true c.field-item.is in
    (omega (arith, low, c.decreases), tt)

pub put_type-returns-in_ok-put_byte-in-Tuple : goal.put_type-returns-in_ok-put_byte-in-Tuple
put_type-returns-in_ok-put_byte-in-Tuple t c =
    let fields = c.in-Tuple.fields.now in
    let fs = map seen_field fields in
    record {
      value = on_one c.put_fields.result
          (fields_put false 7 c.args.out.now.items c.put_byte-in-Tuple.new.out.items c.put_fields.new.out.items fs _
          (seen c.args.ty.now) (sym (length-map fields seen_field)) (ap type_bytes c.in-Tuple.ensures.value
          ∙ tuple_bytes fs) c.in_ok-put_byte-in-Tuple.ensures.value) c.put_fields.ensures.value;
    }

pub put_type-returns-in_ok-put_byte-in-Proto : goal.put_type-returns-in_ok-put_byte-in-Proto
put_type-returns-in_ok-put_byte-in-Proto t c =
    let fields = c.in-Proto.fields.now in
    let fs = map seen_field fields in
    record {
      value = on_one c.put_fields-in-Proto.result
          (fields_put true 9 c.args.out.now.items c.put_byte-in-Proto.new.out.items
          c.put_fields-in-Proto.new.out.items fs _ (seen c.args.ty.now) (sym (length-map fields seen_field))
          (ap type_bytes c.in-Proto.ensures.value ∙ proto_bytes fs) c.in_ok-put_byte-in-Proto.ensures.value)
          c.put_fields-in-Proto.ensures.value;
    }

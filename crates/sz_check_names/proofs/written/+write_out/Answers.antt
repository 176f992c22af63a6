use Rattle.std.proofs.Common.{◌≡◌, sym, ap, subst, ◌∙◌, map, IfOk, length, refl, arith}
use Rattle.std.proofs.lemmas.Bool.{ltb-false}
use Rattle.std.proofs.lemmas.Option.{slice_get_read}
use Rattle.sz_types.proofs.ForCallers.{seen_bool, seen_tuple, seen_proto}
use Rattle.sz_types.specs.Data.{Shape, fields_of}
use Rattle.sz_types.specs.Seen.{seen}
use Rattle.sz_check_names.specs.Written.{shape_in, field_in, shapes_of}
use Rattle.sz_check_names.proofs.WrittenLemmas.{shape_in_tuple, shape_in_proto, named_is, named_none, depths_less}
use Rattle.sz_check_names.proofs.written.+write_out.Goals as goal

-- a name goes on among the types before it
pub write_out-write_out-requires : goal.write_out-write_out-requires
write_out-write_out-requires t c =
    let types = c.args.types.now in
    let read = slice_get_read types (length types) c.in-Named.number c.in-Some.named.now refl
    c.in-Some.ensures.lookup.3.0 c.in-Some.ensures.lookup.1 in
    let less = depths_less types c.in-Named.number c.in-Some.named.now read in
    (omega (arith, less, c.decreases), tt)

pub write_out-returns-in-Some : goal.write_out-returns-in-Some
write_out-returns-in-Some t c =
    let types = c.args.types.now in
    let read = slice_get_read types (length types) c.in-Named.number c.in-Some.named.now refl
    c.in-Some.ensures.lookup.3.0 c.in-Some.ensures.lookup.1 in
    let same = named_is types c.in-Named.number c.in-Some.named.now read
    ∙ sym (ap (shape_in (shapes_of types)) c.in-Named.is) in
    record { value = subst (λ s. IfOk c.write_out.result (λ ty. seen ty ≡ s)) same c.write_out.ensures.value }

pub write_out-returns-in-None : goal.write_out-returns-in-None
write_out-returns-in-None t c =
    let types = c.args.types.now in
    let over = ltb-false c.in-Named.number (length types) (sym c.in-None.ensures.lookup.0) in
    record {
      value = seen_bool ∙ sym (ap (shape_in (shapes_of types)) c.in-Named.is ∙ named_none types c.in-Named.number over);
    }

-- the list of fields
pub write_out-returns-in_ok-write_out_fields-in-Tuple : goal.write_out-returns-in_ok-write_out_fields-in-Tuple
write_out-returns-in_ok-write_out_fields-in-Tuple t c =
    let types = shapes_of c.args.types.now in
    record {
      value = seen_tuple c.in_ok-write_out_fields-in-Tuple.field-0
          ∙ ap (λ fs. Shape.tuple (fields_of fs))
          (c.in_ok-write_out_fields-in-Tuple.ensures.value ∙ ap (map (field_in types)) c.as_slice.ensures.value)
          ∙ sym (ap (shape_in types) c.in-Tuple.is ∙ shape_in_tuple types c.in-Tuple.fields);
    }

pub write_out-returns-in_ok-write_out_fields-in-Proto : goal.write_out-returns-in_ok-write_out_fields-in-Proto
write_out-returns-in_ok-write_out_fields-in-Proto t c =
    let types = shapes_of c.args.types.now in
    record {
      value = seen_proto c.in_ok-write_out_fields-in-Proto.field-0
          ∙ ap (λ fs. Shape.proto (fields_of fs))
          (c.in_ok-write_out_fields-in-Proto.ensures.value
          ∙ ap (map (field_in types)) c.as_slice-in-Proto.ensures.value)
          ∙ sym (ap (shape_in types) c.in-Proto.is ∙ shape_in_proto types c.in-Proto.fields);
    }

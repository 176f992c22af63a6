-- What is read of values by their types is what stands there, part by part.
use Rattle.std.proofs.Common.{◌≡◌, ◌∙◌, ◌+◌, ◌-◌, ◌∷◌, [], map, drop, sym, ap, subst, arith}
use Rattle.std.proofs.lemmas.List.{map-append, length-map}
use Rattle.std.proofs.lemmas.Result.{err_from_is_err_and}
use Rattle.sz_types.specs.Data.{fields_of}
use Rattle.sz_types.specs.Seen as types
use Rattle.sz_value.specs.Seen.{seen, seen_pair, seen_pairs}
use Rattle.sz_save_format.specs.Types.{field_count}
use Rattle.sz_save_format.specs.Entries.{in_order}
use Rattle.sz_save_format.specs.Decoding.{many_at, counted_at}
use Rattle.sz_save_format.specs.DecodingRows.{pair_at, key_may_follow, value_at, parts_at}
use Rattle.sz_save_format.proofs.FrontLemmas.{after, many_goes, stops_too}
use Rattle.sz_save_format.proofs.LoopLemmas.{parts_go, parts_stop, parts_end}
use Rattle.sz_save_format.proofs.ReadLemmas.{map_read, tuple_read, tuple_refused, field_low}
use Rattle.sz_save_format.proofs.TypeLemmas.{count_of}
use Rattle.sz_save_format.proofs.values.+read.Goals as goal

pub read_elements-loop-preserved : goal.read_elements-loop-preserved
read_elements-loop-preserved t c =
    let read = value_at (types.seen c.args.element.now) in
    let whole = counted_at read c.args.flat.now in
    let n = c.in_ok-count.count in
    let i = c.loop.counter in
    let more = c.in_ok-value.after.now in (
      subst (λ done. whole ≡ after done (many_at read (n - (i + 1)) more)) (sym c.in_ok-push.ensures.ok)
          (many_goes read whole c.loop.values c.loop.rest.now n i
          (seen c.in_ok-value.value) more c.loop-test.true c.in_ok-value.ensures.value c.loop.invariant.0),
      omega (arith, c.loop-test.true),
    )

pub read_pairs-loop-preserved : goal.read_pairs-loop-preserved
read_pairs-loop-preserved t c =
    let read = pair_at (value_at (types.seen c.args.key.now)) (value_at (types.seen c.args.value.now)) in
    let whole = counted_at read c.args.flat.now in
    let n = c.in_ok-count.count in
    let i = c.loop.counter in
    let more = c.in_ok-pair.after.now in
    let pushed = ap (map seen_pair) c.in_ok-push.ensures.items
    ∙ map-append seen_pair c.loop.pairs.items (c.in_ok-pair.pair ∷ []) in (
      subst (λ done. whole ≡ after done (many_at read (n - (i + 1)) more)) (sym pushed)
          (many_goes read whole (seen_pairs c.loop.pairs.items) c.loop.rest.now n i
          (seen_pair c.in_ok-pair.pair) more c.loop-test.true c.in_ok-pair.ensures.value
          c.loop.invariant.0),
      omega (arith, c.loop-test.true),
    )

pub read_map-returns : goal.read_map-returns
read_map-returns t c = record {
  value = map_read (value_at (types.seen c.args.key.now))
      (value_at (types.seen c.args.value.now)) c.args.flat.now c.in_ok-rest.rest.now
      (seen_pairs c.in_ok-pairs.pairs.items)
      c.in_ok-from_pairs.field-0 c.in_ok-pairs.rest.now c.in_ok-rest.ensures.value c.in_ok-pairs.ensures.value
      (ap (λ ps. in_order key_may_follow (seen_pairs ps)) (sym c.deref.ensures.value) ∙ sym c.keys_rise.ensures.value
      ∙ c.if-not-keys_rise.false) c.in_ok-from_pairs.ensures.value;
}

pub read_parts-read_value-requires : goal.read_parts-read_value-requires
read_parts-read_value-requires t c =
    let low =
    field_low c.args.fields.now c.loop-field.field-index c.field-item.result c.loop-field-test.true c.field-item.is in
    omega (arith, low, c.decreases)

pub read_parts-returns-in_err-value : goal.read_parts-returns-in_err-value
read_parts-returns-in_err-value t c =
    let p = err_from_is_err_and c.from_residual.result c.from_residual.ensures.1 in
    let fields = c.args.fields.now in
    let whole = parts_at (fields_of (map types.seen_field fields)) c.args.flat.now in
    let field = c.field-item.result in
    let rest = c.loop-field.rest.now in
    record {
      value = rw (p.1, p.2)
          (stops_too (value_at (types.seen field.ty) rest) whole c.in_err-value.field-0.0
          (λ none. parts_stop whole fields c.loop-field.values rest c.loop-field.field-index field
          c.loop-field-test.true c.field-item.is none c.loop-field.invariant)
          c.in_err-value.ensures.value);
    }

pub read_parts-loop-field-preserved : goal.read_parts-loop-field-preserved
read_parts-loop-field-preserved t c =
    let fields = c.args.fields.now in
    let whole = parts_at (fields_of (map types.seen_field fields)) c.args.flat.now in
    let i = c.loop-field.field-index in
    let more = c.in_ok-value.after.now in
    subst (λ done. whole ≡ after done (parts_at (fields_of (map types.seen_field (drop (i + 1) fields))) more))
    (sym c.in_ok-push.ensures.ok) (parts_go whole fields c.loop-field.values c.loop-field.rest.now i
    c.field-item.result (seen c.in_ok-value.value) more c.loop-field-test.true
    c.field-item.is c.in_ok-value.ensures.value c.loop-field.invariant)

pub read_parts-returns : goal.read_parts-returns
read_parts-returns t c =
    let fields = c.args.fields.now in
    record {
      value = parts_end (parts_at (fields_of (map types.seen_field fields)) c.args.flat.now) fields
          c.loop-field.values c.loop-field.rest.now
          c.loop-field.field-index c.loop-field-test.false c.loop-field.invariant;
    }

pub read_tuple-returns-then-count-fields : goal.read_tuple-returns-then-count-fields
read_tuple-returns-then-count-fields t c =
    let fields = map types.seen_field c.args.fields.now in
    let as_many = count_of fields ∙ length-map c.args.fields.now types.seen_field in
    record {
      value = tuple_refused (field_count (fields_of fields))
          (parts_at (fields_of fields)) c.args.flat.now c.in_ok-rest.rest.now c.in_ok-count.count
          c.in_ok-count.rest.now c.in_ok-rest.ensures.value c.in_ok-count.ensures.value
          (λ same. c.if-count-fields.true (same ∙ as_many));
    }

pub read_tuple-returns : goal.read_tuple-returns
read_tuple-returns t c =
    let fields = map types.seen_field c.args.fields.now in
    let as_many = count_of fields ∙ length-map c.args.fields.now types.seen_field in
    record {
      value = tuple_read (field_count (fields_of fields))
          (parts_at (fields_of fields)) c.args.flat.now c.in_ok-rest.rest.now c.in_ok-count.count
          c.in_ok-count.rest.now c.in_ok-rest.ensures.value c.in_ok-count.ensures.value c.in_ok-parts.parts
          c.in_ok-parts.rest.now (c.if-count-fields.false ∙ sym as_many) c.in_ok-parts.ensures.value;
    }

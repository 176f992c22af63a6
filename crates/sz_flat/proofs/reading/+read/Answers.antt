-- What is read is what stands in front, and each stop is a lack.
use Rattle.std.proofs.Common.{◌∙◌, ◌+◌, [], ◌∷◌, length, map, true≢false, sym, ap, subst, arith}
use Rattle.std.proofs.lemmas.Result.{err_from_is_err_and}
use Rattle.std.proofs.lemmas.List.{length-append, map-append}
use Rattle.sz_value.specs.Data.{array, tuple, mapping, data_of, entries_of}
use Rattle.sz_value.specs.Order.{KeysRise}
use Rattle.sz_value.specs.Seen.{seen, seen_pair, seen_pairs}
use Rattle.sz_flat.specs.Reading.{values, pair, lengths, all_of, Stands}
use Rattle.sz_flat.proofs.SpellingLemmas.{one_spelling}
use Rattle.sz_flat.proofs.FrontLemmas.{pair_unique, one_more_stands, all_lacked}
use Rattle.sz_flat.proofs.RisingLemmas.{made_of_rising}
use Rattle.sz_flat.proofs.ReadingLemmas.{no_bytes, stops_too, no_count_of_array, no_array, array_stands, no_count_of_tuple, no_tuple, tuple_stands, no_count_of_map, no_map, keys_fall, map_read, no_value}
use Rattle.sz_flat.proofs.reading.+read.Goals as goal

pub read_array-returns-in_err-count : goal.read_array-returns-in_err-count
read_array-returns-in_err-count t c =
    let p = err_from_is_err_and c.from_residual.result c.from_residual.ensures.1 in
    let flat = c.args.flat.now in
    record {
      value = rw (p.1, p.2) (stops_too lengths values flat
          (6 ∷ flat) c.in_err-count.field-0.0 (no_count_of_array flat) c.in_err-count.ensures.value);
    }

pub read_array-returns-in_err-parts : goal.read_array-returns-in_err-parts
read_array-returns-in_err-parts t c =
    let p = err_from_is_err_and c.from_residual-in_err-parts.result c.from_residual-in_err-parts.ensures.1 in
    let flat = c.args.flat.now in
    let count = c.in_ok-count.count in
    let more = c.in_ok-count.rest.now in
    record {
      value = rw (p.1, p.2)
          (stops_too (all_of values count) values more
          (6 ∷ flat) c.in_err-parts.field-0.0 (no_array flat count more c.in_ok-count.ensures.value)
          c.in_err-parts.ensures.value);
    }

pub read_array-returns : goal.read_array-returns
read_array-returns t c =
    let flat = c.args.flat.now in
    let rest = c.in_ok-parts.rest.now in
    record {
      value = subst (λ ds. Stands values (6 ∷ flat) (array (data_of ds)) rest) (sym c.from_vec.ensures.value)
          (array_stands flat c.in_ok-count.count c.in_ok-count.rest.now (map seen c.in_ok-parts.parts.items) rest
          c.in_ok-count.ensures.value c.in_ok-parts.ensures.value);
    }

pub read_tuple-returns-in_err-count : goal.read_tuple-returns-in_err-count
read_tuple-returns-in_err-count t c =
    let p = err_from_is_err_and c.from_residual.result c.from_residual.ensures.1 in
    let flat = c.args.flat.now in
    record {
      value = rw (p.1, p.2) (stops_too lengths values flat
          (7 ∷ flat) c.in_err-count.field-0.0 (no_count_of_tuple flat) c.in_err-count.ensures.value);
    }

pub read_tuple-returns-in_err-parts : goal.read_tuple-returns-in_err-parts
read_tuple-returns-in_err-parts t c =
    let p = err_from_is_err_and c.from_residual-in_err-parts.result c.from_residual-in_err-parts.ensures.1 in
    let flat = c.args.flat.now in
    let count = c.in_ok-count.count in
    let more = c.in_ok-count.rest.now in
    record {
      value = rw (p.1, p.2)
          (stops_too (all_of values count) values more
          (7 ∷ flat) c.in_err-parts.field-0.0 (no_tuple flat count more c.in_ok-count.ensures.value)
          c.in_err-parts.ensures.value);
    }

pub read_tuple-returns : goal.read_tuple-returns
read_tuple-returns t c =
    let flat = c.args.flat.now in
    let rest = c.in_ok-parts.rest.now in
    record {
      value = subst (λ ds. Stands values (7 ∷ flat) (tuple (data_of ds)) rest) (sym c.from_vec.ensures.value)
          (tuple_stands flat c.in_ok-count.count c.in_ok-count.rest.now (map seen c.in_ok-parts.parts.items) rest
          c.in_ok-count.ensures.value c.in_ok-parts.ensures.value);
    }

pub read_map-returns-in_err-count : goal.read_map-returns-in_err-count
read_map-returns-in_err-count t c =
    let p = err_from_is_err_and c.from_residual.result c.from_residual.ensures.1 in
    let flat = c.args.flat.now in
    record {
      value = rw (p.1, p.2) (stops_too lengths values flat
          (8 ∷ flat) c.in_err-count.field-0.0 (no_count_of_map flat) c.in_err-count.ensures.value);
    }

pub read_map-returns-in_err-pairs : goal.read_map-returns-in_err-pairs
read_map-returns-in_err-pairs t c =
    let p = err_from_is_err_and c.from_residual-in_err-pairs.result c.from_residual-in_err-pairs.ensures.1 in
    let flat = c.args.flat.now in
    let count = c.in_ok-count.count in
    let more = c.in_ok-count.rest.now in
    record {
      value = rw (p.1, p.2)
          (stops_too (all_of pair count) values more
          (8 ∷ flat) c.in_err-pairs.field-0.0 (no_map flat count more c.in_ok-count.ensures.value)
          c.in_err-pairs.ensures.value);
    }

pub read_map-returns-then-not-keys_rise : goal.read_map-returns-then-not-keys_rise
read_map-returns-then-not-keys_rise t c = record {
  value = keys_fall c.args.flat.now c.in_ok-count.count c.in_ok-count.rest.now (seen_pairs c.in_ok-pairs.pairs.items)
      c.in_ok-pairs.rest.now c.in_ok-count.ensures.value c.in_ok-pairs.ensures.value
      (λ rise. true≢false
      (sym (c.keys_rise.ensures.value.1 (subst (λ ps. KeysRise (seen_pairs ps)) (sym c.deref.ensures.value) rise))
      ∙ c.if-not-keys_rise.true));
}

pub read_map-returns : goal.read_map-returns
read_map-returns t c =
    let flat = c.args.flat.now in
    let rest = c.in_ok-pairs.rest.now in
    let ps = seen_pairs c.in_ok-pairs.pairs.items in
    let rise = subst (λ l. KeysRise (seen_pairs l)) c.deref.ensures.value
    (c.keys_rise.ensures.value.0 c.if-not-keys_rise.false) in
    record {
      value = subst (λ made. Stands values (8 ∷ flat) (mapping (entries_of made)) rest)
          (sym (c.in_ok-from_pairs.ensures.value ∙ made_of_rising ps rise))
          (map_read flat c.in_ok-count.count c.in_ok-count.rest.now ps rest
          c.in_ok-count.ensures.value c.in_ok-pairs.ensures.value rise);
    }

pub read_pair-returns-in_err-value : goal.read_pair-returns-in_err-value
read_pair-returns-in_err-value t c =
    let p = err_from_is_err_and c.from_residual-in_err-value.result c.from_residual-in_err-value.ensures.1 in
    let more = c.in_ok-key.rest.now in
    record {
      value = rw (p.1, p.2)
          (stops_too values pair more c.args.flat.now c.in_err-value.field-0.0
          (no_value c.args.flat.now (seen c.in_ok-key.key) more c.in_ok-key.ensures.value)
          c.in_err-value.ensures.value);
    }

pub read_parts-returns-in_err-value : goal.read_parts-returns-in_err-value
read_parts-returns-in_err-value t c =
    let p = err_from_is_err_and c.from_residual.result c.from_residual.ensures.1 in
    let rest = c.loop.rest.now in
    record {
      value = rw (p.1, p.2)
          (stops_too values (all_of values c.args.count) rest c.args.flat.now c.in_err-value.field-0.0
          (all_lacked values one_spelling c.args.flat.now (map seen c.loop.values.items) rest
          c.args.count c.loop.counter c.loop.invariant.0 c.loop-test.true)
          c.in_err-value.ensures.value);
    }

pub read_parts-loop-preserved : goal.read_parts-loop-preserved
read_parts-loop-preserved t c =
    let flat = c.args.flat.now in
    let after = c.in_ok-value.after.now in
    let one = seen c.in_ok-value.value in
    let pushed = ap (map seen) c.in_ok-push.ensures.items
    ∙ map-append seen c.loop.values.items (c.in_ok-value.value ∷ []) in
    let stands = one_more_stands values flat (map seen c.loop.values.items) c.loop.rest.now one after
    c.loop.counter c.loop.invariant.0 c.in_ok-value.ensures.value in
    let long = ap length c.in_ok-value.ensures.value.is ∙ length-append (values.spelled one) after in (
      subst (λ ys. Stands (all_of values (c.loop.counter + 1)) flat ys after) (sym pushed) stands,
      omega (arith, c.loop-test.true),
      omega (arith, long, c.loop.invariant.2),
    )

pub read_pairs-returns-in_err-pair : goal.read_pairs-returns-in_err-pair
read_pairs-returns-in_err-pair t c =
    let p = err_from_is_err_and c.from_residual.result c.from_residual.ensures.1 in
    let rest = c.loop.rest.now in
    record {
      value = rw (p.1, p.2)
          (stops_too pair (all_of pair c.args.count) rest c.args.flat.now c.in_err-pair.field-0.0
          (all_lacked pair pair_unique c.args.flat.now (map seen_pair c.loop.pairs.items) rest
          c.args.count c.loop.counter c.loop.invariant.0 c.loop-test.true)
          c.in_err-pair.ensures.value);
    }

pub read_pairs-loop-preserved : goal.read_pairs-loop-preserved
read_pairs-loop-preserved t c =
    let flat = c.args.flat.now in
    let after = c.in_ok-pair.after.now in
    let one = seen_pair c.in_ok-pair.pair in
    let pushed = ap (map seen_pair) c.in_ok-push.ensures.items
    ∙ map-append seen_pair c.loop.pairs.items (c.in_ok-pair.pair ∷ []) in
    let stands = one_more_stands pair flat (map seen_pair c.loop.pairs.items) c.loop.rest.now one after
    c.loop.counter c.loop.invariant.0 c.in_ok-pair.ensures.value in
    let long = ap length c.in_ok-pair.ensures.value.is ∙ length-append (pair.spelled one) after in (
      subst (λ ys. Stands (all_of pair (c.loop.counter + 1)) flat ys after) (sym pushed) stands,
      omega (arith, c.loop-test.true),
      omega (arith, long, c.loop.invariant.2),
    )

pub read_value-returns-in_default : goal.read_value-returns-in_default
read_value-returns-in_default t c = record { value = no_bytes c.args.flat.now c.in_default.len_below }

-- What is appended is the spelling, part by part.
use Rattle.std.proofs.Common.{◌≡◌, ◌∙◌, ◌+◌, ◌∷◌, ◌++◌, length, map, take, sym, ap, subst, arith}
use Rattle.std.specs.Prelude.{OnOk}
use Rattle.std.proofs.lemmas.List.{length-map}
use Rattle.sz_value.specs.Code.{datum_nodes, parts_nodes}
use Rattle.sz_value.specs.Data.{data_of}
use Rattle.sz_value.specs.Seen.{seen, seen_pair}
use Rattle.sz_flat.specs.Spelling.{length_bytes, HasShortLengths, HaveSpellings}
use Rattle.sz_flat.specs.Reading.{values, pair, all_of, Adds}
use Rattle.sz_flat.proofs.FrontLemmas.{parts_have, pairs_have, one_more_added}
use Rattle.sz_flat.proofs.WritingLemmas.{short_parts, list_added, map_added, on_both, on_one, few_parts, few_pairs, array_added, tuple_added, mapping_added, pair_added, part_nodes, taken_more, pair_nodes, short_pair, pair_taken}
use Rattle.sz_flat.proofs.writing.+spell.Goals as goal

pub spell-spell_list-requires : goal.spell-spell_list-requires
spell-spell_list-requires t c =
    let list = c.in-Array.list in
    let nodes = ap (λ v. datum_nodes (seen v)) c.in-Array.is in
    let parts = subst HasShortLengths (ap seen c.in-Array.is) c.requires.short in
    (omega (arith, nodes, c.decreases), (few_parts list parts.0, parts.1))

pub spell-spell_list-requires-in-Tuple : goal.spell-spell_list-requires-in-Tuple
spell-spell_list-requires-in-Tuple t c =
    let list = c.in-Tuple.list in
    let nodes = ap (λ v. datum_nodes (seen v)) c.in-Tuple.is in
    let parts = subst HasShortLengths (ap seen c.in-Tuple.is) c.requires.short in
    (omega (arith, nodes, c.decreases), (few_parts list parts.0, parts.1))

pub spell-spell_map-requires : goal.spell-spell_map-requires
spell-spell_map-requires t c =
    let list = c.in-Map.pairs in
    let nodes = ap (λ v. datum_nodes (seen v)) c.in-Map.is in
    let parts = subst HasShortLengths (ap seen c.in-Map.is) c.requires.short in
    (omega (arith, nodes, c.decreases), (few_pairs list parts.0, parts.1))

pub spell-returns-in-Array : goal.spell-returns-in-Array
spell-returns-in-Array t c =
    let list = c.in-Array.list in
    let parts = subst HasShortLengths (ap seen c.in-Array.is) c.requires.short in
    let old = c.args.out.now.items in
    let new = c.spell_list.new.out.items in
    record {
      value = subst (λ d. OnOk c.spell_list.result (Adds values old new d)) (sym (ap seen c.in-Array.is))
          (on_both c.spell_list.result (array_added old new list (few_parts list parts.0))
          c.spell_list.ensures.spelled c.spell_list.ensures.value);
    }

pub spell-returns-in-Tuple : goal.spell-returns-in-Tuple
spell-returns-in-Tuple t c =
    let list = c.in-Tuple.list in
    let parts = subst HasShortLengths (ap seen c.in-Tuple.is) c.requires.short in
    let old = c.args.out.now.items in
    let new = c.spell_list-in-Tuple.new.out.items in
    let result = c.spell_list-in-Tuple.result in
    record {
      value = subst (λ d. OnOk result (Adds values old new d)) (sym (ap seen c.in-Tuple.is))
          (on_both result (tuple_added old new list (few_parts list parts.0))
          c.spell_list-in-Tuple.ensures.spelled c.spell_list-in-Tuple.ensures.value);
    }

pub spell-returns-in-Map : goal.spell-returns-in-Map
spell-returns-in-Map t c =
    let pairs = c.in-Map.pairs in
    let parts = subst HasShortLengths (ap seen c.in-Map.is) c.requires.short in
    let old = c.args.out.now.items in
    let new = c.spell_map.new.out.items in
    let result = c.spell_map.result in
    record {
      value = subst (λ d. OnOk result (Adds values old new d)) (sym (ap seen c.in-Map.is))
          (on_both result (λ f x. f x)
          (on_both result (mapping_added old new pairs (few_pairs pairs parts.0))
          c.spell_map.ensures.rising c.spell_map.ensures.spelled) c.spell_map.ensures.value);
    }

pub spell_list-returns-clause-spelled : goal.spell_list-returns-clause-spelled
spell_list-returns-clause-spelled t c =
    on_one c.spell_parts.result (λ h. subst (λ ds. HaveSpellings (data_of ds)) c.as_slice.ensures.value
    (parts_have (map seen c.as_slice.result.now) h.has.1)) c.spell_parts.ensures.value

pub spell_list-returns-clause-value : goal.spell_list-returns-clause-value
spell_list-returns-clause-value t c =
    let old = c.args.out.now.items in
    let now = c.spell_length.new.out.items in
    let new = c.spell_parts.new.out.items in
    let kind = c.args.kind in
    let list = c.args.list.now in
    let counted : now ≡ old ++ kind ∷ length_bytes (length list) =
    c.in_ok-spell_length.ensures.value ∙ (λ i. old ++ kind ∷ length_bytes (c.len.ensures.value i)) in
    let long = ap length (sym c.as_slice.ensures.value) ∙ length-map c.as_slice.result.now seen in
    on_one c.spell_parts.result
    (λ h. list_added old now new kind (length list) list counted
    (let both : Adds (all_of values (length list)) now new list =
    subst (λ n. Adds (all_of values n) now new list) (sym long)
    (subst (λ ds. Adds (all_of values (length c.as_slice.result.now)) now new ds) c.as_slice.ensures.value h) in both))
    c.spell_parts.ensures.value

pub spell_map-returns-clause-spelled : goal.spell_map-returns-clause-spelled
spell_map-returns-clause-spelled t c =
    on_one c.spell_pairs.result (λ h. pairs_have c.args.pairs.now h.has.1) c.spell_pairs.ensures.value

pub spell_map-returns-clause-value : goal.spell_map-returns-clause-value
spell_map-returns-clause-value t c =
    let old = c.args.out.now.items in
    let now = c.spell_length.new.out.items in
    let new = c.spell_pairs.new.out.items in
    let pairs = c.args.pairs.now in
    let counted : now ≡ old ++ 8 ∷ length_bytes (length pairs) =
    c.in_ok-spell_length.ensures.value ∙ (λ i. old ++ 8 ∷ length_bytes (c.len.ensures.value i)) in
    on_one c.spell_pairs.result (map_added old now new 8 (length pairs) pairs counted) c.spell_pairs.ensures.value

pub spell_pairs-spell-requires : goal.spell_pairs-spell-requires
spell_pairs-spell-requires t c =
    let pairs = c.args.pairs.now in
    let one = seen_pair c.pair-pair.result.now in
    let nodes = pair_nodes one pairs c.loop-place.place c.pair-pair.ensures.value in (
      omega (arith, nodes, c.decreases),
      (short_pair one pairs c.loop-place.place c.pair-pair.ensures.value c.requires.short).0,
    )

pub spell_pairs-spell-requires-in-loop-place : goal.spell_pairs-spell-requires-in-loop-place
spell_pairs-spell-requires-in-loop-place t c =
    let pairs = c.args.pairs.now in
    let one = seen_pair c.pair-pair.result.now in
    let nodes = pair_nodes one pairs c.loop-place.place c.pair-pair.ensures.value in (
      omega (arith, nodes, c.decreases),
      (short_pair one pairs c.loop-place.place c.pair-pair.ensures.value c.requires.short).1,
    )

pub spell_pairs-loop-place-preserved : goal.spell_pairs-loop-place-preserved
spell_pairs-loop-place-preserved t c =
    let i = c.loop-place.place in
    let p = c.pair-pair.result.now in
    let pairs = c.args.pairs.now in
    let old = c.args.out.now.items in
    let new = c.spell-in-loop-place.new.out.items in
    let one = pair_added c.loop-place.out.items c.spell.new.out.items new (seen p.key)
    (seen p.value) c.in_ok-spell.ensures.value c.in_ok-spell-2.ensures.value in
    subst (Adds (all_of pair (i + 1)) old new) (sym (pair_taken (seen_pair p) pairs i c.pair-pair.ensures.value))
    (one_more_added pair old c.loop-place.out.items new (take i pairs) (seen_pair p) i c.loop-place.invariant one)

pub spell_parts-spell-requires : goal.spell_parts-spell-requires
spell_parts-spell-requires t c =
    let nodes =
    part_nodes c.args.parts.now c.loop-part.part-index c.part-item.result c.loop-part-test.true c.part-item.is in
    let short = c.requires.short c.loop-part.part-index c.part-item.result c.loop-part-test.true in
    (omega (arith, nodes, c.decreases), subst (λ v. HasShortLengths (seen v)) (sym c.part-item.is) short)

pub spell_parts-loop-part-preserved : goal.spell_parts-loop-part-preserved
spell_parts-loop-part-preserved t c =
    let i = c.loop-part.part-index in
    let v = c.part-item.result in
    let old = c.args.out.now.items in
    let new = c.spell.new.out.items in
    subst (Adds (all_of values (i + 1)) old new)
    (sym (taken_more seen c.args.parts.now i v c.loop-part-test.true c.part-item.is))
    (one_more_added values old c.loop-part.out.items new (map seen (take i c.args.parts.now))
    (seen v) i c.loop-part.invariant c.in_ok-spell.ensures.value)

pub spell_list-spell_parts-requires : goal.spell_list-spell_parts-requires
spell_list-spell_parts-requires t c =
    let nodes = ap parts_nodes c.as_slice.ensures.value in (
      omega (arith, nodes, c.decreases),
      short_parts c.as_slice.result.now c.args.list.now c.as_slice.ensures.value c.requires.short,
    )

-- Each part has fewer nodes than the value, and its text is appended after those before it.
use Rattle.std.proofs.Common.{◌∙◌, ◌++◌, sym, ap, arith}
use Rattle.std.proofs.lemmas.Option.{slice_get_within, get_or_from_slice_get}
use Rattle.sz_value.specs.Code.{datum_nodes, parts_nodes}
use Rattle.sz_value.specs.Data.{data_of}
use Rattle.sz_value.specs.Seen.{seen, seen_pair}
use Rattle.sz_print.specs.Joined.{joined}
use Rattle.sz_print.specs.Text.{value_text, parts_text, pair_text}
use Rattle.sz_print.proofs.JoinedLemmas.{one_more, in_braces}
use Rattle.sz_print.proofs.ValueLemmas.{part_nodes, pair_nodes, parts_are, pairs_are}
use Rattle.sz_print.proofs.value.+push.Goals as goal

pub push_value-push_list-requires : goal.push_value-push_list-requires
push_value-push_list-requires t c =
    let nodes = ap (λ v. datum_nodes (seen v)) c.in-Array.is in (omega (arith, nodes, c.decreases), tt)

pub push_value-push_list-requires-in-Tuple : goal.push_value-push_list-requires-in-Tuple
push_value-push_list-requires-in-Tuple t c =
    let nodes = ap (λ v. datum_nodes (seen v)) c.in-Tuple.is in (omega (arith, nodes, c.decreases), tt)

pub push_value-push_map-requires : goal.push_value-push_map-requires
push_value-push_map-requires t c =
    let nodes = ap (λ v. datum_nodes (seen v)) c.in-Map.is in (omega (arith, nodes, c.decreases), tt)

pub push_list-push_parts-requires : goal.push_list-push_parts-requires
push_list-push_parts-requires t c =
    let nodes = ap parts_nodes c.as_slice.ensures.value in (omega (arith, nodes, c.decreases), tt)

pub push_parts-push_value-requires : goal.push_parts-push_value-requires
push_parts-push_value-requires t c =
    let nodes =
    part_nodes c.args.parts.now c.loop-at.at c.index-parts-at.result c.loop-at-test.true c.index-parts-at.is in
    (omega (arith, nodes, c.decreases), tt)

pub push_parts-loop-at-preserved : goal.push_parts-loop-at-preserved
push_parts-loop-at-preserved t c =
    one_more (λ v. value_text (seen v))
    c.args.parts.now c.loop-at.at c.index-parts-at.result c.args.out.now.items c.loop-at.out.items
    c.push_comma.new.out.items
    c.push_value.new.out.items c.loop-at-test.true c.index-parts-at.is c.loop-at.invariant
    c.in_ok-push_comma.ensures.value c.in_ok-push_value.ensures.value

pub push_pairs-push_pair-requires : goal.push_pairs-push_pair-requires
push_pairs-push_pair-requires t c =
    let nodes = pair_nodes c.args.pairs.now c.loop-place.place (seen_pair c.pair.result.now) c.pair.ensures.value in
    (omega (arith, nodes, c.decreases), tt)

pub push_pairs-loop-place-preserved : goal.push_pairs-loop-place-preserved
push_pairs-loop-place-preserved t c =
    let pairs = c.args.pairs.now in
    let i = c.loop-place.place in
    let p = seen_pair c.pair.result.now in
    one_more pair_text pairs i p
    c.args.out.now.items c.loop-place.out.items c.push_comma.new.out.items c.push_pair.new.out.items
    (slice_get_within pairs i p c.pair.ensures.value) (sym (get_or_from_slice_get pairs i p p c.pair.ensures.value))
    c.loop-place.invariant c.in_ok-push_comma.ensures.value c.in_ok-push_pair.ensures.value

pub push_list-returns : goal.push_list-returns
push_list-returns t c = record {
  value = in_braces c.args.out.now.items c.push.new.self.items c.push_parts.new.out.items c.push-2.new.self.items
      (joined (λ v. value_text (seen v)) c.as_slice.result.now)
      c.in_ok-push.ensures.items c.in_ok-push_parts.ensures.value c.in_ok-push-2.ensures.items
      ∙ ap (λ l. c.args.out.now.items ++ l) (parts_are c.as_slice.result.now)
      ∙ ap (λ ds. c.args.out.now.items ++ parts_text (data_of ds)) c.as_slice.ensures.value;
}

pub push_map-returns : goal.push_map-returns
push_map-returns t c = record {
  value = in_braces c.args.out.now.items c.push.new.self.items c.push_pairs.new.out.items c.push-2.new.self.items
      (joined pair_text c.args.pairs.now)
      c.in_ok-push.ensures.items c.in_ok-push_pairs.ensures.value c.in_ok-push-2.ensures.items
      ∙ ap (λ l. c.args.out.now.items ++ l)
      (pairs_are c.args.pairs.now (sym c.is_empty.ensures.value ∙ c.if-is_empty.false));
}

-- Each turn feeds the first of what is ahead, and the end is fed last.
use Rattle.std.proofs.Common.{sym, ◌∙◌, arith}
use Rattle.sz_value.specs.Seen.{seen_pair}
use Rattle.sz_value.proofs.HashLemmas.{list_step, pairs_step, list_done, pairs_done}
use Rattle.sz_value.proofs.hashing.+hash.Goals as goal

pub feed_list-loop-value-preserved : goal.feed_list-loop-value-preserved
feed_list-loop-value-preserved g t c =
    sym (list_step g.H.Hasher.write _ _ c.value-item.result c.loop-value.state c.feed.new.state c.loop-value-test.true
    c.value-item.is c.feed.ensures.value) ∙ c.loop-value.invariant

pub feed_list-returns : goal.feed_list-returns
feed_list-returns g t c =
    let done = list_done g.H.Hasher.write _ _ c.loop-value.state c.loop-value-test.false in
    record {
      value = rw (← c.list.view_is, ← c.deref-value-items.ensures.value)
          (c.hash.ensures ∙ sym done ∙ c.loop-value.invariant);
    }

pub feed_pairs-loop-place-preserved : goal.feed_pairs-loop-place-preserved
feed_pairs-loop-place-preserved g t c =
    sym (pairs_step g.H.Hasher.write c.args.pairs.now c.loop-place.place (seen_pair c.pair.result.now)
    c.loop-place.state c.feed_pair.new.state c.pair.ensures.value c.feed_pair.ensures.value)
    ∙ c.loop-place.invariant

pub feed_pairs-returns : goal.feed_pairs-returns
feed_pairs-returns g t c =
    let done = pairs_done g.H.Hasher.write c.args.pairs.now _ c.loop-place.state
    (omega (arith, c.loop-place-test.false, c.len-place-end.ensures.value)) in
    record { value = c.hash.ensures ∙ sym done ∙ c.loop-place.invariant }

-- Before the first pair there are none, and each pair is put in after those before it.
use Rattle.std.proofs.Common.{[], ◌∙◌, map, refl, sym, ap}
use Rattle.std.specs.List.Sorted.{IsStrictlySortedBy}
use Rattle.std.proofs.lemmas.List.{map-append}
use Rattle.sz_value.specs.Maps.{with_pair, with_pairs}
use Rattle.sz_value.specs.Seen.{seen, seen_pair}
use Rattle.sz_value.proofs.GatherLemmas.{with_one_more}
use Rattle.sz_value.proofs.pairs.gathered.Goals as goal

pub loop-pair-init : goal.loop-pair-init
unfolding IsStrictlySortedBy
loop-pair-init c = rw c.in_ok-made.ensures.items (record { value = refl; rising = tt })

pub loop-pair-preserved : goal.loop-pair-preserved
loop-pair-preserved c = record {
  value =
      c.in_ok-put_in.ensures.ok
      ∙ ap (with_pair (seen c.in-Some.pair.key) (seen c.in-Some.pair.value)) c.loop-pair.invariant.value
      ∙ sym (ap (with_pairs []) (map-append seen_pair c.loop-pair.yielded _)
      ∙ with_one_more [] (map seen_pair c.loop-pair.yielded) (seen_pair c.in-Some.pair));
  rising = c.put_in.ensures.rising;
}

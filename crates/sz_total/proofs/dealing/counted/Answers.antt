-- Each turn counts one index list.
use Rattle.std.proofs.Common.{◌+◌, refl, sym, ap, subst, arith}
use Rattle.std.specs.Prelude.{slice_set, slice_index_or}
use Rattle.std.specs.Map.Iter.{deref_pair}
use Rattle.std.proofs.lemmas.Map.Iter.{rest_more}
use Rattle.sz_total.proofs.CountingLemmas.{IsCountedTo, counted_none, counted_more, counted_all, count_short, all_same}
use Rattle.sz_total.proofs.OneTableLemmas.{part_within}
use Rattle.sz_total.proofs.dealing.counted.Goals as goal

pub loop-key-init : goal.loop-key-init
loop-key-init c =
    let all = c.args.lists.now.entries in
    subst (λ es. IsCountedTo all es _) (sym c.into_iter-key-iterator.ensures.into_iter_gives.0)
    (counted_none all _ refl (λ at less. all_same 0 16 at))

pub overflow_add-counts : goal.overflow_add-counts
overflow_add-counts c =
    let short = count_short c.args.lists.now.entries c.loop-key.key-iterator c.loop-key.counts c.place_of.result
    c.place_of.ensures.within c.loop-key.invariant in
    omega (arith, short, c.into_iter-key-iterator.ensures.into_iter_gives.1)

pub loop-key-preserved : goal.loop-key-preserved
loop-key-preserved c =
    let counts = c.loop-key.counts in
    let step = rest_more deref_pair c.loop-key.key-iterator c.next.new.self c.next.result
    (c.in-Some.key, c.in-Some.field-0-1) c.in-Some.is c.next.ensures.steps in
    counted_more c.args.lists.now.entries c.loop-key.key-iterator c.next.new.self c.in-Some.key.now
    c.in-Some.field-0-1.now counts _ step (part_within c.in-Some.key.now)
    (ap (λ k. slice_set counts k (slice_index_or counts k 0 + 1)) c.place_of.ensures.value) c.loop-key.invariant

pub returns : goal.returns
returns c = record {
  value = counted_all c.args.lists.now.entries c.loop-key.counts
      (subst (λ es. IsCountedTo c.args.lists.now.entries es c.loop-key.counts)
      c.in-None.ensures.steps.0 c.loop-key.invariant);
}

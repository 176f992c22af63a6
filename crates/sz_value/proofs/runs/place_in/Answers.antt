-- The place in the run of the key comes after all pairs of the runs before it.
use Rattle.std.proofs.Common.{◌∙◌, refl, ap, length, arith}
use Rattle.sz_value.specs.Seen.{seen, seen_pairs}
use Rattle.sz_value.proofs.MapLemmas.{value_missing}
use Rattle.sz_value.proofs.EndLemmas.{ends_front}
use Rattle.sz_value.proofs.RunLemmas.{own_run, rise_at, value_at_run, place_at_run, counted_to}
use Rattle.sz_value.proofs.runs.place_in.Goals as goal

pub place_of-requires : goal.place_of-requires
place_of-requires c =
    let run = own_run refl c.index-runs-at.is c.run_for-at.ensures.within c.run_for-at.ensures.value in
    record { rising = rw c.deref.ensures.value (rise_at run c.requires.runs) }

pub count_before-requires-clause-ends : goal.count_before-requires-clause-ends
count_before-requires-clause-ends c = ends_front c.args.runs.now c.run_for-at.result 0 c.requires.ends

pub overflow_add-result : goal.overflow_add-result
overflow_add-result c =
    let all = counted_to c.args.runs.now c.run_for-at.result c.index-runs-at.result c.run_for-at.ensures.within in
    let run = ap (λ r. length r.pairs.items) c.index-runs-at.is in
    let slice = ap length c.deref.ensures.value in
    omega (arith, all, run, slice, c.in-Ok.ensures.within, c.count_before.ensures.value, c.requires.counted)

pub returns-in-Ok-clause-found : goal.returns-in-Ok-clause-found
returns-in-Ok-clause-found c =
    let run = own_run refl c.index-runs-at.is c.run_for-at.ensures.within c.run_for-at.ensures.value in
    rw c.count_before.ensures.value (place_at_run run c.in-Ok.place (rw c.deref.ensures.value at c.in-Ok.ensures.found))

pub returns-in-Err-clause-none : goal.returns-in-Err-clause-none
returns-in-Err-clause-none c =
    let run = own_run refl c.index-runs-at.is c.run_for-at.ensures.within c.run_for-at.ensures.value in
    let gap = rw c.deref.ensures.value at c.in-Err.ensures.none in
    value_at_run run ∙ value_missing (seen c.args.key.now)
    (seen_pairs c.index-runs-at.result.pairs.items) c.in-Err.field-0 (rise_at run c.requires.runs) gap

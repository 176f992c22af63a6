-- The search ends at the place of the key in its run, or at the gap for it.
use Rattle.std.proofs.Common.{◌∙◌, refl, sym}
use Rattle.sz_value.specs.Seen.{seen, seen_pairs}
use Rattle.sz_value.proofs.MapLemmas.{value_found, value_missing}
use Rattle.sz_value.proofs.RunLemmas.{own_run, rise_at, value_at_run}
use Rattle.sz_value.proofs.runs.value_in.Goals as goal

pub place_of-requires : goal.place_of-requires
place_of-requires c =
    let run = own_run refl c.index-runs-at.is c.run_for-at.ensures.within c.run_for-at.ensures.value in
    record { rising = rw c.deref.ensures.value (rise_at run c.requires.runs) }

pub returns-in-Ok : goal.returns-in-Ok
returns-in-Ok c =
    let run = own_run refl c.index-runs-at.is c.run_for-at.ensures.within c.run_for-at.ensures.value in
    let place = rw c.deref.ensures.value at c.in-Ok.ensures.found in
    let found =
    value_found (seen c.args.key.now) c.index-runs-at.result.pairs.items c.in-Ok.place c.index.result.now place in
    record { value = sym (value_at_run run ∙ rw (← c.index.ensures) at found) }

pub returns-in-Err : goal.returns-in-Err
returns-in-Err c =
    let run = own_run refl c.index-runs-at.is c.run_for-at.ensures.within c.run_for-at.ensures.value in
    let gap = rw c.deref.ensures.value at c.in-Err.ensures.none in
    let missing = value_missing (seen c.args.key.now)
    (seen_pairs c.index-runs-at.result.pairs.items) c.in-Err.field-0 (rise_at run c.requires.runs) gap in
    record { value = sym (value_at_run run ∙ missing) }

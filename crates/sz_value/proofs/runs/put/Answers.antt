-- What is put into the run of the key is put among all pairs.
use mathlib.Core.Bool.{false≢true}
use Rattle.std.proofs.Common.{◌≡◌, ◌∙◌, IsSome, refl, subst, sym, set, ap, length, arith}
use Rattle.sz_value.specs.Maps.{with_pair}
use Rattle.sz_value.specs.Order.{KeysRise}
use Rattle.sz_value.specs.Runs.{AreRuns}
use Rattle.sz_value.specs.Seen.{seen, seen_runs}
use Rattle.sz_value.specs.declared.value.Run.{Run}
use Rattle.sz_value.proofs.EndLemmas.{ends_at_run, front_at_run}
use Rattle.sz_value.proofs.RunLemmas.{own_run, rise_at, value_at_run, put_at_run, count_at_run, same_at_run, for_err}
use Rattle.sz_value.proofs.runs.put.Goals as goal

pub put_in-requires : goal.put_in-requires
put_in-requires c =
    let run =
    own_run c.deref.ensures.value c.index_mut.ensures.value c.run_for-at.ensures.within c.run_for-at.ensures.value in
    record { rising = rise_at run c.requires.runs }

pub returns-in_err-added-clause-runs : goal.returns-in_err-added-clause-runs
returns-in_err-added-clause-runs c =
    let run =
    own_run c.deref.ensures.value c.index_mut.ensures.value c.run_for-at.ensures.within c.run_for-at.ensures.value in
    let made : Run = record { pairs = c.put_in.new.pairs; end = c.index_mut.result.now.end } in
    (same_at_run run made c.requires.runs c.in_err-added.ensures.err).are

pub returns-in_err-added-clause-ends : goal.returns-in_err-added-clause-ends
returns-in_err-added-clause-ends c =
    let run =
    own_run c.deref.ensures.value c.index_mut.ensures.value c.run_for-at.ensures.within c.run_for-at.ensures.value in
    let made : Run = record { pairs = c.put_in.new.pairs; end = c.index_mut.result.now.end } in
    ends_at_run run made c.requires.ends refl (ap length c.in_err-added.ensures.err)

pub returns-in_err-added-clause-err : goal.returns-in_err-added-clause-err
returns-in_err-added-clause-err c =
    let run =
    own_run c.deref.ensures.value c.index_mut.ensures.value c.run_for-at.ensures.within c.run_for-at.ensures.value in
    let made : Run = record { pairs = c.put_in.new.pairs; end = c.index_mut.result.now.end } in
    for_err c.from_residual.result (same_at_run run made c.requires.runs c.in_err-added.ensures.err).pairs

-- What asks for memory is a key that is not there.
pub returns-in_err-added-clause-room : goal.returns-in_err-added-clause-room
returns-in_err-added-clause-room c there =
    let run =
    own_run c.deref.ensures.value c.index_mut.ensures.value c.run_for-at.ensures.within c.run_for-at.ensures.value in
    absurd (false≢true (c.in_err-added.ensures.room (subst IsSome (value_at_run run) there)))

pub settle-requires-clause-filled : goal.settle-requires-clause-filled
settle-requires-clause-filled c =
    let run =
    own_run c.deref.ensures.value c.index_mut.ensures.value c.run_for-at.ensures.within c.run_for-at.ensures.value in
    let made : Run = record { pairs = c.put_in.new.pairs; end = c.index_mut.result.now.end } in
    (put_at_run run (seen c.args.value) made c.requires.runs c.in_ok-added.ensures.ok).are.0

pub settle-requires-clause-front : goal.settle-requires-clause-front
settle-requires-clause-front c =
    let run =
    own_run c.deref.ensures.value c.index_mut.ensures.value c.run_for-at.ensures.within c.run_for-at.ensures.value in
    let made : Run = record { pairs = c.put_in.new.pairs; end = c.index_mut.result.now.end } in
    front_at_run run made c.requires.ends

pub settle-requires-clause-none : goal.settle-requires-clause-none
settle-requires-clause-none c none =
    let run =
    own_run c.deref.ensures.value c.index_mut.ensures.value c.run_for-at.ensures.within c.run_for-at.ensures.value in
    let made : Run = record { pairs = c.put_in.new.pairs; end = c.index_mut.result.now.end } in
    ends_at_run run made c.requires.ends refl (omega (arith, none, c.in_ok-added.ensures.count.0))

pub settle-requires-clause-small : goal.settle-requires-clause-small
settle-requires-clause-small c =
    let run =
    own_run c.deref.ensures.value c.index_mut.ensures.value c.run_for-at.ensures.within c.run_for-at.ensures.value in
    let made : Run = record { pairs = c.put_in.new.pairs; end = c.index_mut.result.now.end } in
    omega (arith, count_at_run run made, c.in_ok-added.ensures.count.0, c.in_ok-added.ensures.count.1, c.requires.small)

-- the runs with what was put into one of them
abbrev with_it : goal.After-settle → Run
with_it c = record { pairs = c.put_in.new.pairs; end = c.index_mut.result.now.end }

with_pair_put : (c : goal.After-settle)
    → record {
      are : AreRuns (set c.args.runs.now.items c.run_for-at.result (with_it c));
      pairs : seen_runs (set c.args.runs.now.items c.run_for-at.result (with_it c))
          ≡ with_pair (seen c.args.key) (seen c.args.value) (seen_runs c.args.runs.now.items);
    }
with_pair_put c =
    let run =
    own_run c.deref.ensures.value c.index_mut.ensures.value c.run_for-at.ensures.within c.run_for-at.ensures.value in
    put_at_run run (seen c.args.value) (with_it c) c.requires.runs c.in_ok-added.ensures.ok

pub returns-clause-runs : goal.returns-clause-runs
returns-clause-runs c = (c.settle.ensures.filled, subst KeysRise (sym c.settle.ensures.same) (with_pair_put c).are.1)

pub returns-clause-ok : goal.returns-clause-ok
returns-clause-ok c = c.settle.ensures.same ∙ (with_pair_put c).pairs

pub returns-clause-count : goal.returns-clause-count
returns-clause-count c =
    let run =
    own_run c.deref.ensures.value c.index_mut.ensures.value c.run_for-at.ensures.within c.run_for-at.ensures.value in
    let kept = ap length c.settle.ensures.same in
    (omega (arith, count_at_run run (with_it c), kept, c.in_ok-added.ensures.count.0), c.in_ok-added.ensures.count.1)

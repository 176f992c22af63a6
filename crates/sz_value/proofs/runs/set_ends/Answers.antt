-- A run ends behind those before it and its own pairs.
use Rattle.std.proofs.Common.{◌+◌, ◌<◌, ◌∙◌, ap, length, take, arith}
use Rattle.std.proofs.lemmas.List.{length-set}
use Rattle.sz_value.specs.Seen.{seen_runs}
use Rattle.sz_value.specs.declared.value.Run.{Run}
use Rattle.sz_value.proofs.EndLemmas.{ends_more}
use Rattle.sz_value.proofs.RunLemmas.{counted_to, same_seen, same_filled}
use Rattle.sz_value.proofs.runs.set_ends.Goals as goal

pub overflow_add-run : goal.overflow_add-run
overflow_add-run c =
    let runs = c.loop-at.runs.items in
    let run = c.index_mut-run.result.now in
    let all = counted_to runs c.loop-at.at run (omega (arith, c.loop-at-test.true, c.loop-at.invariant.count)) in
    let here = ap (λ r. length r.pairs.items) c.index_mut-run.ensures.value in
    let before = ap (λ rs. length (seen_runs (take c.loop-at.at rs))) c.deref.ensures.value in
    let whole = ap length c.loop-at.invariant.same in
    omega (
      arith,
      all,
      here,
      before,
      whole,
      c.count_before-before.ensures.value,
      c.len.ensures,
      run.pairs.ok,
      c.requires.small,
    )

pub loop-at-preserved : goal.loop-at-preserved
loop-at-preserved c =
    let runs = c.loop-at.runs.items in
    let run = c.index_mut-run.result.now in
    let made : Run = record { pairs = run.pairs; end = c.count_before-before.result + c.len.result } in
    let within : c.loop-at.at < length runs = omega (arith, c.loop-at-test.true, c.loop-at.invariant.count) in
    let same = ap (λ r. r.pairs.items) c.index_mut-run.ensures.value in
    let before = ap (λ rs. length (seen_runs (take c.loop-at.at rs))) c.deref.ensures.value in
    record {
      front = ends_more runs c.loop-at.at 0 made within c.loop-at.invariant.front
          (omega (arith, before, c.count_before-before.ensures.value, c.len.ensures, run.pairs.ok));
      filled = same_filled runs c.loop-at.at run made c.loop-at.invariant.filled within same;
      same = same_seen runs c.loop-at.at run made within same ∙ c.loop-at.invariant.same;
      count = omega (arith, c.loop-at.invariant.count, length-set runs c.loop-at.at made);
    }

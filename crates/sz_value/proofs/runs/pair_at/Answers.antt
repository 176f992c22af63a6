-- The place in the run comes after all pairs of the runs before it.
use Rattle.std.proofs.Common.{arith, get_or}
use Rattle.sz_value.proofs.EndLemmas.{ends_front, pair_is}
use Rattle.sz_value.proofs.RunLemmas.{count_more}
use Rattle.sz_value.proofs.runs.pair_at.Goals as goal

pub count_before-requires-clause-ends : goal.count_before-requires-clause-ends
count_before-requires-clause-ends c = ends_front c.args.runs.now c.run_at-at.result 0 c.requires.ends

pub index-requires : goal.index-requires
index-requires c =
    let count = count_more c.args.runs.now c.run_at-at.result c.index-runs-at.result c.run_at-at.ensures.within in
    let run = get_or c.args.runs.now c.run_at-at.result c.index-runs-at.result in
    omega (arith, count, c.count_before.ensures.value, c.run_at-at.ensures.low, c.run_at-at.ensures.high, run.pairs.ok)

pub returns : goal.returns
returns c =
    let count = count_more c.args.runs.now c.run_at-at.result c.index-runs-at.result c.run_at-at.ensures.within in
    record {
      value = pair_is c.args.runs.now c.run_at-at.result c.args.place c.count_before.result c.index-runs-at.result
          c.index.result.now c.run_at-at.ensures.within c.count_before.ensures.value
          (omega (arith, c.count_before.ensures.value, c.run_at-at.ensures.low)) c.run_at-at.ensures.high
          (omega (arith, count, c.count_before.ensures.value, c.run_at-at.ensures.low, c.run_at-at.ensures.high))
          c.index.ensures;
    }

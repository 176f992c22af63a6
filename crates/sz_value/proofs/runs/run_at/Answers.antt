-- The ends don't fall, so those that aren't behind the place come first.
use Rattle.std.proofs.Common.{rules, arith, leb, leb-true, leb-false}
use Rattle.std.proofs.lemmas.Fn.{always_returns_same}
use Rattle.std.proofs.lemmas.List.Sorted.{IsPartitionedBy-leb}
use Rattle.sz_value.specs.declared.value.Run.{Run}
use Rattle.sz_value.proofs.EndLemmas.{IsRunAt, ends_rise, run_parted}
use Rattle.sz_value.proofs.runs.run_at.Goals as goal

parted : (c : goal.After-partition_point) → IsRunAt c.args.runs.now c.partition_point.result c.args.place
parted c =
    let runs = c.args.runs.now in
    let ways = c.partition_point.ensures.partitioned (λ (run : Run). leb run.end c.args.place)
    (always_returns_same _ _ _ (λ a r f called. search rules))
    (IsPartitionedBy-leb (λ (run : Run). run.end) runs c.args.place (ends_rise runs 0 c.requires.ends)) in
    run_parted runs
    c.partition_point.result c.args.place c.requires.ends c.requires.within c.partition_point.ensures.bound
    (λ k d low. leb-true _ c.args.place (ways.0 k d (omega arith) low))
    (λ k d low high. leb-false _ c.args.place (ways.1 k d low high))

pub returns-clause-within : goal.returns-clause-within
returns-clause-within c = (parted c).within

pub returns-clause-low : goal.returns-clause-low
returns-clause-low c = (parted c).low

pub returns-clause-high : goal.returns-clause-high
returns-clause-high c = (parted c).high

use Rattle.std.proofs.Common.{sym, subst, arith}
use Rattle.sz_total.specs.Weights.{HaveTheirWeights}
use Rattle.sz_attempt.proofs.WeightLemmas.{have_their_weights}
use Rattle.sz_attempt.proofs.EndLemmas.{bad_ends, death_ends, part_ends}
use Rattle.sz_attempt.proofs.shard_run.attempt_in.Goals as goal

-- the tables of a sound program have their weights
pub new-requires : goal.new-requires
new-requires c = record {
  weights = subst HaveTheirWeights (sym c.tables.ensures.value)
      (have_their_weights c.args.job.now.compiled c.requires.job.sound);
}

-- too many records fault
pub returns-then-len-job : goal.returns-then-len-job
returns-then-len-job c = record {
  value = bad_ends c.args.job.now c.args.records.now.items c.args.shard.now c.requires.shard c.args.shard_no
      c.args.number c.as_slice.result.now c.as_slice.ensures.value c.death_of-death.result
      c.death_of-death.ensures.value c.run_of-count.result c.run_of-count.ensures.value
      c.run_records.new.part c.in_ok-faults.faults c.in_ok-faults.ensures.value
      (omega (arith, c.if-len-job.true, c.len.ensures.value));
}

-- the attempt dies
pub returns-in-Some : goal.returns-in-Some
returns-in-Some c = record {
  value = death_ends c.args.job.now c.args.records.now.items c.args.shard.now c.requires.shard c.args.shard_no
      c.args.number c.as_slice.result.now c.as_slice.ensures.value c.death_of-death.result
      c.death_of-death.ensures.value c.run_of-count.result c.run_of-count.ensures.value
      c.run_records.new.part c.in_ok-faults.faults c.in_ok-faults.ensures.value c.in-Some.after
      (omega (arith, c.if-len-job.false, c.len.ensures.value)) c.in-Some.is;
}

-- all records were run
pub returns : goal.returns
returns c = record {
  value = part_ends c.args.job.now c.args.records.now.items c.args.shard.now c.requires.shard c.args.shard_no
      c.args.number c.as_slice.result.now c.as_slice.ensures.value c.death_of-death.result
      c.death_of-death.ensures.value c.run_of-count.result c.run_of-count.ensures.value
      c.run_records.new.part c.in_ok-faults.faults c.in_ok-faults.ensures.value
      (omega (arith, c.if-len-job.false, c.len.ensures.value)) c.in-None.is;
}

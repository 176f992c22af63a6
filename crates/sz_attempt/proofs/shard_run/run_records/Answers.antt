use Rattle.std.proofs.Common.{arith}
use Rattle.sz_attempt.specs.Shards.{records_of}
use Rattle.sz_attempt.proofs.RunLemmas.{got_in_range, run_stop, run_on}
use Rattle.sz_attempt.proofs.shard_run.run_records.Goals as goal

-- one record too many faults
pub returns-then-len-job : goal.returns-then-len-job
returns-then-len-job c =
    let shard = c.args.shard.now in
    let i = c.loop-i.i in
    let there = got_in_range c.args.records.now.items shard.start shard.end i
    c.get-input.result.now c.get-input.ensures.value (omega (arith, c.loop-i-test.true, c.requires.count)) in
    record {
      value = run_stop c.args.job.now shard.first (records_of c.args.records.now.items shard) i
          c.loop-i.part c.run_record.new.part c.loop-i.faults c.run_record.new.faults c.get-input.result.now
          c.requires.job there c.loop-i.invariant c.args.count c.loop-i-test.true
          c.in_ok-run_record.ensures.value (omega (arith, c.if-len-job.true, c.len.ensures.value));
    }

-- one record more was run
pub loop-i-preserved : goal.loop-i-preserved
loop-i-preserved c =
    let shard = c.args.shard.now in
    let i = c.loop-i.i in
    let there = got_in_range c.args.records.now.items shard.start shard.end i
    c.get-input.result.now c.get-input.ensures.value (omega (arith, c.loop-i-test.true, c.requires.count)) in
    run_on c.args.job.now shard.first (records_of c.args.records.now.items shard) i
    c.loop-i.part c.run_record.new.part c.loop-i.faults c.run_record.new.faults c.get-input.result.now c.requires.job
    there c.loop-i.invariant c.in_ok-run_record.ensures.value (omega (arith, c.if-len-job.false, c.len.ensures.value))

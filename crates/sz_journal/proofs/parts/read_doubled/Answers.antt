-- Each turn reads one shard more.
use Rattle.sz_save_format.specs.Decoding.{length_at, counted_at}
use Rattle.sz_journal.proofs.FindLemmas.{read_one}
use Rattle.sz_journal.proofs.parts.read_doubled.Goals as goal

pub loop-preserved : goal.loop-preserved
loop-preserved c =
    read_one length_at (counted_at length_at c.args.flat.now) c.loop.shards _
    c.loop.rest.now c.in_ok-shard.after.now c.in_ok-count.count c.loop.counter
    c.in_ok-shard.shard c.loop-test.true c.in_ok-shard.ensures.value c.loop.invariant c.in_ok-push.ensures.ok

-- Each turn reads one kill more.
use Rattle.sz_save_format.specs.Decoding.{counted_at}
use Rattle.sz_journal.specs.EntryReading.{triple_at}
use Rattle.sz_journal.proofs.FindLemmas.{read_one}
use Rattle.sz_journal.proofs.parts.read_kills.Goals as goal

pub loop-preserved : goal.loop-preserved
loop-preserved c =
    read_one triple_at (counted_at triple_at c.args.flat.now) c.loop.kills _
    c.loop.rest.now c.in_ok-kill.after.now c.in_ok-count.count c.loop.counter
    c.in_ok-kill.kill c.loop-test.true c.in_ok-kill.ensures.value c.loop.invariant c.in_ok-push.ensures.ok

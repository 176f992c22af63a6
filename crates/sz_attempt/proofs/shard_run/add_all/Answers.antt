use Rattle.sz_attempt.proofs.RunLemmas.{gains_nothing, next_fits, next_short, next_has_room, next_added}
use Rattle.sz_attempt.proofs.shard_run.add_all.Goals as goal

-- nothing is added yet
pub loop-emit-init : goal.loop-emit-init
loop-emit-init c = gains_nothing c.args.part.now

-- one emit more is added
pub add-requires-clause-fits : goal.add-requires-clause-fits
add-requires-clause-fits c =
    next_fits c.args.part.now c.loop-emit.part c.args.emits.now c.loop-emit.emit-index c.emit-item.result
    c.loop-emit-test.true c.emit-item.is c.loop-emit.invariant c.requires.fit

pub add-requires-clause-short : goal.add-requires-clause-short
add-requires-clause-short c =
    next_short c.args.part.now c.loop-emit.part c.args.emits.now c.loop-emit.emit-index c.emit-item.result
    c.loop-emit-test.true c.emit-item.is c.loop-emit.invariant c.requires.short

pub add-requires-clause-room : goal.add-requires-clause-room
add-requires-clause-room c =
    next_has_room c.args.part.now c.loop-emit.part c.args.emits.now c.loop-emit.emit-index c.emit-item.result
    c.loop-emit-test.true c.emit-item.is c.loop-emit.invariant c.requires.few

pub loop-emit-preserved : goal.loop-emit-preserved
loop-emit-preserved c =
    next_added c.args.part.now c.loop-emit.part c.args.emits.now c.loop-emit.emit-index c.emit-item.result
    c.loop-emit-test.true c.emit-item.is c.loop-emit.invariant c.add.new.self c.in_ok-add.ensures.ok

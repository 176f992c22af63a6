use Rattle.std.proofs.Common.{[], ◌∷◌, sym, subst}
use Rattle.std.specs.Prelude.{OnOk}
use Rattle.sz_book.specs.Lanes.{LaneData}
use Rattle.sz_claims.specs.Known.{AreInHand}
use Rattle.sz_workers.specs.Working.{HasAllWon, longer_by}
use Rattle.sz_workers.proofs.AdvanceLemmas.{leaves_none, leaves_lent}
use Rattle.sz_workers.proofs.WonLemmas.{last_apart, at_work_none, hand_put, all_put, fresh_lent, may_give_lent, hand_lent, won_lent}
use Rattle.sz_workers.proofs.working.keep.Goals as goal

-- the lane was out, and the part goes into the pocket
pub put-requires-clause-fresh : goal.put-requires-clause-fresh
put-requires-clause-fresh g c =
    last_apart c.args.pocket.now.shards c.args.receipt.shard c.args.pass.now.mine c.requires.ready.hand

pub returns-in_default-clause-led : goal.returns-in_default-clause-led
returns-in_default-clause-led g c =
    leaves_none g.T.Load.died g.T.Load.is_bad c.args.ledger.now.plan c.args.pass.now c.lend.new.pass c.args.lane_no
    c.in_default.ensures.none c.requires.ready.place

pub returns-in_default-clause-hand : goal.returns-in_default-clause-hand
returns-in_default-clause-hand g c =
    let s = c.args.receipt.shard in
    let at = at_work_none c.args.pass.now c.lend.new.pass (longer_by c.args.pocket.now (s ∷ []))
    c.args.lane_no c.in_default.ensures.none c.requires.ready in
    subst (λ (l : LaneData). AreInHand l.shards c.lend.new.pass.mine) (sym c.put.ensures.value)
    (hand_put c.lend.new.pass c.args.pocket.now s c.put.result at)

pub returns-in_default-clause-won : goal.returns-in_default-clause-won
returns-in_default-clause-won g c =
    let s = c.args.receipt.shard in
    let at = at_work_none c.args.pass.now c.lend.new.pass (longer_by c.args.pocket.now (s ∷ []))
    c.args.lane_no c.in_default.ensures.none c.requires.ready in
    subst (λ (l : LaneData). OnOk c.put.result (HasAllWon c.lend.new.pass l)) (sym c.put.ensures.value)
    (all_put c.lend.new.pass c.args.pocket.now s c.put.result at)

-- the lane was home, and takes the part
pub put-answer-requires-clause-fresh : goal.put-answer-requires-clause-fresh
put-answer-requires-clause-fresh g c =
    fresh_lent c.args.pass.now c.lend.new.pass c.args.pocket.now c.args.lane_no c.args.receipt.shard c.in-Some.lane
    c.requires.ready c.in-Some.ensures.some

pub give-requires-clause-may : goal.give-requires-clause-may
give-requires-clause-may g c =
    may_give_lent c.args.pass.now c.lend.new.pass c.args.pocket.now c.args.lane_no c.args.receipt.shard c.in-Some.lane
    c.requires.ready c.in-Some.ensures.some c.put-answer.new.lane c.put-answer.result c.put-answer.ensures.value

pub returns-clause-led : goal.returns-clause-led
returns-clause-led g c =
    leaves_lent g.T.Load.died g.T.Load.is_bad c.args.ledger.now.plan c.args.pass.now c.lend.new.pass c.give.new.pass
    c.args.lane_no c.in-Some.lane _
    c.in-Some.ensures.some c.give.ensures.call c.requires.ready.place c.requires.ready.idle c.requires.ready.none_lent

pub returns-clause-hand : goal.returns-clause-hand
returns-clause-hand g c =
    hand_lent c.args.pass.now c.lend.new.pass c.args.pocket.now c.args.lane_no c.args.receipt.shard c.in-Some.lane
    c.requires.ready c.in-Some.ensures.some c.give.new.pass c.put-answer.new.lane c.put-answer.result
    c.put-answer.ensures.value c.give.ensures.call

pub returns-clause-won : goal.returns-clause-won
returns-clause-won g c =
    won_lent c.args.pass.now c.lend.new.pass c.args.pocket.now c.args.lane_no c.args.receipt.shard c.in-Some.lane
    c.requires.ready c.in-Some.ensures.some c.give.new.pass c.put-answer.new.lane c.put-answer.result
    c.put-answer.ensures.value c.give.ensures.call

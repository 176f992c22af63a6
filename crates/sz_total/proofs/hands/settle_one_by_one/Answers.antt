-- Each turn settles one part.
use Rattle.std.proofs.Common.{arith}
use Rattle.sz_total.proofs.RoomLemmas.{settled_none, may_settle_next, settled_more, all_settled}
use Rattle.sz_total.proofs.hands.settle_one_by_one.Goals as goal

pub loop-at-init : goal.loop-at-init
loop-at-init c = settled_none c.args.parts.now.items

pub settle_at-requires : goal.settle_at-requires
settle_at-requires c = record {
  may = may_settle_next c.loop-at.at c.args.parts.now.items c.loop-at.parts.items c.requires.may c.loop-at.invariant
      (omega (arith, c.loop-at-test.true));
}

pub loop-at-preserved : goal.loop-at-preserved
loop-at-preserved c =
    settled_more c.loop-at.at c.args.parts.now.items c.loop-at.parts.items c.settle_at.new.parts.items
    c.loop-at.invariant c.settle_at.ensures.settles

pub returns : goal.returns
returns c = record {
  settled = all_settled c.loop-at.at c.args.parts.now.items c.loop-at.parts.items
      (omega (arith, c.loop-at-test.false)) c.loop-at.invariant;
}

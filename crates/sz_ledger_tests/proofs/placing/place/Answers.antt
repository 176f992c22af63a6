use Rattle.std.proofs.Common.{◌+◌, [], ◌∷◌, true, ap, sym, ◌∙◌, subst}
use Rattle.sz_book_rules.specs.Plan.{IsPlan}
use Rattle.sz_book_rules.specs.declared.event.Event.TheVariants.{LaneOut}
use Rattle.sz_book_rules.specs.declared.event.Reply.TheVariants.{Lane}
use Rattle.sz_claims.proofs.ForCallers.{fits_lane, has_lane, may_give, in_hand_still}
use Rattle.sz_ledger_tests.proofs.placing.place.Goals as goal

pub put-requires-clause-fresh : goal.put-requires-clause-fresh
put-requires-clause-fresh c =
    let plan = subst IsPlan (sym (ap (λ l. l.plan) c.requires.of.0 ∙ c.requires.plan.1)) c.requires.plan.0 in
    fits_lane c.args.pass.now c.lend.new.pass c.args.lane_no c.args.receipt.shard c.in-Some.lane plan
    c.in-Some.ensures.some c.requires.won

pub give-requires-clause-may : goal.give-requires-clause-may
give-requires-clause-may c =
    let lent = c.in-Some.ensures.some in
    let h = has_lane c.args.pass.now c.lend.new.pass c.args.lane_no c.in-Some.lane lent in
    let hand = in_hand_still c.args.pass.now c.lend.new.pass (c.args.receipt.shard ∷ []) (LaneOut c.args.lane_no)
    (Lane true) (c.args.lane_no + 1) c.in-Some.lane.shards lent.0 c.requires.won in
    may_give c.lend.new.pass c.args.lane_no c.in-Some.lane c.put.new.self (c.args.receipt.shard ∷ []) h.1 h.2 h.3
    (ap (λ l. l.plan) c.in-Ok.ensures.ok) (ap (λ l. l.shards) c.in-Ok.ensures.ok) hand

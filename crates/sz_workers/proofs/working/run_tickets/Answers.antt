use Rattle.std.proofs.Common.{Some, None, refl, ap, ◌∙◌}
use Rattle.std.proofs.lemmas.Result.{err_from_is_err_and}
use Rattle.sz_book_rules.specs.declared.event.Event.TheVariants.{Draw}
use Rattle.sz_book_rules.specs.declared.event.Reply.TheVariants.{Ticket}
use Rattle.sz_claims.specs.Known.{LedgerData}
use Rattle.sz_claims.proofs.ForCallers.{has_drawn_now}
use Rattle.sz_workers.proofs.LoopLeftLemmas.{fewer_tickets}
use Rattle.sz_workers.proofs.AdvanceLemmas.{between_self, between_then, stopped_then, worked_now}
use Rattle.sz_workers.proofs.WonLemmas.{at_work_call, at_work_then, grows_self, grows_then, hand_still, all_still}
use Rattle.sz_workers.proofs.working.run_tickets.Goals as goal

-- none was drawn yet
pub loop-claim-init : goal.loop-claim-init
loop-claim-init g c = (
  between_self g.T.Load.died g.T.Load.is_bad c.args.ledger.now.plan c.args.pass.now,
  c.requires.ready,
  refl,
  grows_self c.args.pocket.now,
)

-- a ticket was drawn
pub try_shard-requires-clause-ready : goal.try_shard-requires-clause-ready
try_shard-requires-clause-ready g c =
    at_work_call c.loop-claim.pass c.draw.new.pass c.loop-claim.pocket Draw
    (Ticket (Some c.in-Some.claim)) c.in-Some.ensures.call (λ s is e. is)
    c.loop-claim.invariant.1

pub try_shard-requires-clause-drew : goal.try_shard-requires-clause-drew
try_shard-requires-clause-drew g c =
    has_drawn_now c.loop-claim.pass c.draw.new.pass c.in-Some.claim c.in-Some.ensures.call

pub loop-claim-smaller : goal.loop-claim-smaller
loop-claim-smaller g c =
    fewer_tickets c.loop-claim.pass c.draw.new.pass c.try_shard.new.pass c.in-Some.claim c.in-Some.ensures.call
    c.in_ok-try_shard.ensures.ok.goes

pub loop-claim-preserved : goal.loop-claim-preserved
loop-claim-preserved g c =
    let led = c.in_ok-try_shard.ensures.ok in
    let of = ap (λ (l : LedgerData). l.plan) (c.loop-claim.invariant.0.goes.ledger ∙ c.requires.of.0) in
    let at = at_work_call c.loop-claim.pass c.draw.new.pass c.loop-claim.pocket Draw
    (Ticket (Some c.in-Some.claim)) c.in-Some.ensures.call
    (λ s is e. is) c.loop-claim.invariant.1 in (
      between_then g.T.Load.died g.T.Load.is_bad c.args.ledger.now.plan c.args.pass.now c.loop-claim.pass
          c.draw.new.pass c.in-Some.claim
          c.loop-claim.invariant.0 of c.loop-claim.invariant.1.place c.in-Some.ensures.call c.try_shard.new.pass led,
      at_work_then c.draw.new.pass c.try_shard.new.pass c.loop-claim.pocket c.try_shard.new.pocket at led.goes led.place
          c.try_shard.ensures.grows c.try_shard.ensures.hand c.in_ok-try_shard.ensures.won,
      c.try_shard.ensures.plan ∙ c.loop-claim.invariant.2,
      grows_then c.args.pocket.now c.loop-claim.pocket c.try_shard.new.pocket c.loop-claim.invariant.3
          c.try_shard.ensures.grows,
    )

-- there was no memory
pub returns-in_err-try_shard-clause-begun : goal.returns-in_err-try_shard-clause-begun
returns-in_err-try_shard-clause-begun g c =
    let of = ap (λ (l : LedgerData). l.plan) (c.loop-claim.invariant.0.goes.ledger ∙ c.requires.of.0) in
    let p = err_from_is_err_and c.from_residual.result c.from_residual.ensures.1 in
    rw p.1 (stopped_then g.T.Load.died g.T.Load.is_bad c.args.ledger.now.plan c.args.pass.now c.loop-claim.pass
    c.draw.new.pass c.in-Some.claim c.loop-claim.invariant.0 of
    c.loop-claim.invariant.1.place c.in-Some.ensures.call c.try_shard.new.pass c.in_err-try_shard.ensures.err)

pub returns-in_err-try_shard-clause-grows : goal.returns-in_err-try_shard-clause-grows
returns-in_err-try_shard-clause-grows g c =
    grows_then
    c.args.pocket.now c.loop-claim.pocket c.try_shard.new.pocket c.loop-claim.invariant.3 c.try_shard.ensures.grows

-- none was left
pub returns-clause-worked : goal.returns-clause-worked
returns-clause-worked g c =
    worked_now g.T.Load.died g.T.Load.is_bad c.args.ledger.now.plan c.args.pass.now c.loop-claim.pass c.draw.new.pass
    c.loop-claim.invariant.0 c.in_default.ensures.call

pub returns-clause-hand : goal.returns-clause-hand
returns-clause-hand g c =
    hand_still c.loop-claim.pass c.draw.new.pass c.loop-claim.pocket Draw
    (Ticket None) c.in_default.ensures.call c.loop-claim.invariant.1.hand

pub returns-clause-won : goal.returns-clause-won
returns-clause-won g c =
    all_still c.loop-claim.pass c.draw.new.pass c.loop-claim.pocket Draw
    (Ticket None) c.in_default.ensures.call (λ s is e. is) c.loop-claim.invariant.1.all

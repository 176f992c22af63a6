use Rattle.std.proofs.Common.{Bool, Some, None, ◌∙◌, subst}
use Rattle.std.proofs.lemmas.Result.{err_from_is_err_and}
use Rattle.sz_book_rules.specs.declared.event.Event.TheVariants.{Number}
use Rattle.sz_book_rules.specs.declared.event.Reply.TheVariants.{Number as Numbered}
use Rattle.sz_book_rules.specs.Orderly.{asks, tries, ended}
use Rattle.sz_claims.proofs.ForCallers.{has_drawn_still, has_number_now}
use Rattle.sz_workers.specs.LoopTickets.{Leads, phase_after}
use Rattle.sz_workers.proofs.CallLemmas.{drawn_since}
use Rattle.sz_workers.proofs.LoopLeftLemmas.{fewer_numbers}
use Rattle.sz_workers.proofs.AdvanceLemmas.{leads_try, stops_try, leads_dry}
use Rattle.sz_workers.proofs.WonLemmas.{at_work_call, at_work_then, grows_then, hand_still, all_still}
use Rattle.sz_workers.proofs.working.try_shard.Goals as goal

-- a number was given
pub try_once-requires-clause-ready : goal.try_once-requires-clause-ready
try_once-requires-clause-ready g c =
    at_work_call c.loop-number.pass c.number.new.pass c.loop-number.pocket (Number c.args.claim.now)
    (Numbered (Some c.in-Some.number)) c.in-Some.ensures.call (λ s is e. is) c.loop-number.invariant.1

pub try_once-requires-clause-drew : goal.try_once-requires-clause-drew
try_once-requires-clause-drew g c =
    has_drawn_still c.loop-number.pass c.number.new.pass c.args.claim.now (Number c.args.claim.now)
    (Numbered (Some c.in-Some.number)) c.in-Some.ensures.call c.loop-number.invariant.2

pub try_once-requires-clause-given : goal.try_once-requires-clause-given
try_once-requires-clause-given g c =
    has_number_now c.loop-number.pass c.number.new.pass c.args.claim.now c.in-Some.number c.in-Some.ensures.call

-- there was no memory
pub returns-in_err-try_once-clause-err : goal.returns-in_err-try_once-clause-err
returns-in_err-try_once-clause-err g c =
    let p = err_from_is_err_and c.from_residual.result c.from_residual.ensures.1 in
    rw p.1 (stops_try g.T.Load.died g.T.Load.is_bad c.args.ledger.now.plan c.args.pass.now c.loop-number.pass
    c.number.new.pass c.args.claim.now c.loop-number.invariant.0 c.try_once.new.pass c.in-Some.number
    c.in-Some.ensures.call c.in_err-try_once.ensures.err)

pub returns-in_err-try_once-clause-grows : goal.returns-in_err-try_once-clause-grows
returns-in_err-try_once-clause-grows g c =
    grows_then
    c.args.pocket.now c.loop-number.pocket c.try_once.new.pocket c.loop-number.invariant.4 c.try_once.ensures.grows

-- the ticket has ended
pub returns-then-branch-clause-ok : goal.returns-then-branch-clause-ok
returns-then-branch-clause-ok g c =
    leads_try g.T.Load.died g.T.Load.is_bad c.args.ledger.now.plan c.args.pass.now c.loop-number.pass
    c.number.new.pass c.args.claim.now
    c.loop-number.invariant.0 c.try_once.new.pass c.in-Some.number ended c.in-Some.ensures.call
    (subst (λ (b : Bool). Leads g.T.Load.died g.T.Load.is_bad c.args.ledger.now.plan c.number.new.pass
    c.try_once.new.pass c.args.claim.now.ticket
    (tries c.in-Some.number) (phase_after b)) c.if-branch.true c.in_ok-try_once.ensures.ok)

pub returns-then-branch-clause-grows : goal.returns-then-branch-clause-grows
returns-then-branch-clause-grows g c =
    grows_then
    c.args.pocket.now c.loop-number.pocket c.try_once.new.pocket c.loop-number.invariant.4 c.try_once.ensures.grows

-- the attempt died
pub loop-number-smaller : goal.loop-number-smaller
loop-number-smaller g c =
    fewer_numbers c.loop-number.pass c.number.new.pass c.try_once.new.pass c.args.claim.now c.in-Some.number
    c.loop-number.invariant.0.place.plan c.in-Some.ensures.call c.in_ok-try_once.ensures.ok.goes

pub loop-number-preserved : goal.loop-number-preserved
loop-number-preserved g c =
    let drew = has_drawn_still c.loop-number.pass c.number.new.pass c.args.claim.now (Number c.args.claim.now)
    (Numbered (Some c.in-Some.number)) c.in-Some.ensures.call c.loop-number.invariant.2 in
    let led = subst
    (λ (b : Bool). Leads g.T.Load.died g.T.Load.is_bad c.args.ledger.now.plan c.number.new.pass c.try_once.new.pass
    c.args.claim.now.ticket (tries c.in-Some.number) (phase_after b)) c.if-branch.false c.in_ok-try_once.ensures.ok in
    let at = at_work_call c.loop-number.pass c.number.new.pass c.loop-number.pocket (Number c.args.claim.now)
    (Numbered (Some c.in-Some.number))
    c.in-Some.ensures.call (λ s is e. is) c.loop-number.invariant.1 in (
      leads_try g.T.Load.died g.T.Load.is_bad c.args.ledger.now.plan c.args.pass.now c.loop-number.pass
          c.number.new.pass c.args.claim.now
          c.loop-number.invariant.0 c.try_once.new.pass c.in-Some.number asks c.in-Some.ensures.call led,
      at_work_then c.number.new.pass c.try_once.new.pass c.loop-number.pocket c.try_once.new.pocket at
          led.goes led.place c.try_once.ensures.grows c.try_once.ensures.hand c.in_ok-try_once.ensures.won,
      drawn_since c.number.new.pass c.try_once.new.pass c.args.claim.now led.further led.later drew,
      c.try_once.ensures.plan ∙ c.loop-number.invariant.3,
      grows_then c.args.pocket.now c.loop-number.pocket c.try_once.new.pocket c.loop-number.invariant.4
          c.try_once.ensures.grows,
    )

-- no number was left
pub returns-clause-ok : goal.returns-clause-ok
returns-clause-ok g c =
    leads_dry g.T.Load.died g.T.Load.is_bad c.args.ledger.now.plan c.args.pass.now c.loop-number.pass
    c.number.new.pass c.args.claim.now c.loop-number.invariant.0 c.in_default.ensures.call

pub returns-clause-hand : goal.returns-clause-hand
returns-clause-hand g c =
    hand_still c.loop-number.pass c.number.new.pass c.loop-number.pocket (Number c.args.claim.now)
    (Numbered None) c.in_default.ensures.call c.loop-number.invariant.1.hand

pub returns-clause-won : goal.returns-clause-won
returns-clause-won g c =
    all_still c.loop-number.pass c.number.new.pass c.loop-number.pocket (Number c.args.claim.now)
    (Numbered None) c.in_default.ensures.call (λ s is e. is) c.loop-number.invariant.1.all

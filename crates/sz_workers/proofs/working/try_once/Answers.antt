use Rattle.std.proofs.Common.{◌<◌, ap, sym, ◌∙◌, subst}
use Rattle.sz_book_rules.specs.Plan.{PlanData}
use Rattle.sz_book_rules.specs.declared.event.Event.TheVariants.{Died, Bad}
use Rattle.sz_book_rules.specs.declared.event.Reply.TheVariants.{Noted}
use Rattle.sz_book_rules.specs.Orderly.{tries}
use Rattle.sz_claims.specs.Known.{LedgerData}
use Rattle.sz_workers.specs.Makers.{IsTrueMiss}
use Rattle.sz_workers.proofs.CallLemmas.{is_claim, claims_shard, numbers_low}
use Rattle.sz_workers.proofs.AdvanceLemmas.{leads_self, leads_bad}
use Rattle.sz_workers.proofs.WonLemmas.{hand_still, all_still}
use Rattle.sz_workers.proofs.working.try_once.Goals as goal

pub attempt-requires-clause-claim : goal.attempt-requires-clause-claim
attempt-requires-clause-claim g c =
    is_claim (g.M.Maker.plan c.args.maker.now) c.args.pass.now c.args.claim.now
    (ap (λ (l : LedgerData). l.plan) c.requires.of.0 ∙ sym c.requires.of.1) c.requires.ready.place c.requires.drew

pub attempt-requires-clause-within : goal.attempt-requires-clause-within
attempt-requires-clause-within g c =
    subst (λ (p : PlanData). c.args.claim.now.shard < p.shards)
    (ap (λ (l : LedgerData). l.plan) c.requires.of.0 ∙ sym c.requires.of.1)
    (claims_shard c.args.pass.now c.args.claim.now c.requires.ready.place c.requires.drew)

pub attempt-requires-clause-number : goal.attempt-requires-clause-number
attempt-requires-clause-number g c =
    subst (λ (p : PlanData). c.args.number < p.attempts)
    (ap (λ (l : LedgerData). l.plan) c.requires.of.0 ∙ sym c.requires.of.1)
    (numbers_low c.args.pass.now c.args.claim.now c.args.number c.requires.ready.place c.requires.given)

pub bad-requires-clause-within : goal.bad-requires-clause-within
bad-requires-clause-within g c =
    subst (λ (l : LedgerData). c.args.claim.now.shard < l.plan.shards) c.requires.of.0
    (claims_shard c.args.pass.now c.args.claim.now c.requires.ready.place c.requires.drew)

pub bad-requires-clause-bad : goal.bad-requires-clause-bad
bad-requires-clause-bad g c =
    (subst (IsTrueMiss g.T.Load.died g.T.Load.is_bad c.args.claim.now.shard c.args.number)
    c.in-Err-Bad.field-0-is c.in-Err-Bad.ensures.missed).1

-- it died
pub returns-in-Err-Died-clause-hand : goal.returns-in-Err-Died-clause-hand
returns-in-Err-Died-clause-hand g c =
    hand_still c.args.pass.now c.died.new.pass c.args.pocket.now (Died c.args.claim.now c.args.number) Noted
    c.died.ensures.call c.requires.ready.hand

pub returns-in-Err-Died-clause-won : goal.returns-in-Err-Died-clause-won
returns-in-Err-Died-clause-won g c =
    all_still c.args.pass.now c.died.new.pass c.args.pocket.now (Died c.args.claim.now c.args.number) Noted
    c.died.ensures.call (λ s is e. is) c.requires.ready.all

-- its shard faults
pub returns-in-Err-Bad-clause-ok : goal.returns-in-Err-Bad-clause-ok
returns-in-Err-Bad-clause-ok g c =
    leads_bad g.T.Load.died g.T.Load.is_bad c.args.ledger.now.plan c.args.pass.now c.bad.new.pass c.args.claim.now
    c.args.number c.bad.ensures.call
    c.requires.ready.place (ap (λ (l : LedgerData). l.plan) c.requires.of.0) c.requires.drew
    (subst (IsTrueMiss g.T.Load.died g.T.Load.is_bad c.args.claim.now.shard c.args.number)
    c.in-Err-Bad.field-0-is c.in-Err-Bad.ensures.missed).1

pub returns-in-Err-Bad-clause-hand : goal.returns-in-Err-Bad-clause-hand
returns-in-Err-Bad-clause-hand g c =
    hand_still c.args.pass.now c.bad.new.pass c.args.pocket.now (Bad c.args.claim.now.shard) Noted
    c.bad.ensures.call c.requires.ready.hand

pub returns-in-Err-Bad-clause-won : goal.returns-in-Err-Bad-clause-won
returns-in-Err-Bad-clause-won g c =
    all_still c.args.pass.now c.bad.new.pass c.args.pocket.now (Bad c.args.claim.now.shard) Noted
    c.bad.ensures.call (λ s is e. is) c.requires.ready.all

-- without memory nothing was reported
pub returns-in-Err-NoMemory-clause-err : goal.returns-in-Err-NoMemory-clause-err
returns-in-Err-NoMemory-clause-err g c = (
  tries c.args.number,
  leads_self g.T.Load.died g.T.Load.is_bad c.args.ledger.now.plan c.args.pass.now c.args.claim.now.ticket
      (tries c.args.number) c.requires.ready.place,
)

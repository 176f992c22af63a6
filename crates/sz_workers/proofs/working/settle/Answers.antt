use Rattle.std.proofs.Common.{[], ◌∷◌, ap, sym, subst}
use Rattle.sz_book_rules.specs.declared.event.Event.TheVariants.{Settle}
use Rattle.sz_book_rules.specs.declared.event.Reply.TheVariants.{Late}
use Rattle.sz_workers.specs.Working.{IsAtWork, longer_by}
use Rattle.sz_workers.proofs.AdvanceLemmas.{leads_kept}
use Rattle.sz_workers.proofs.WonLemmas.{hand_still, all_still, at_work_won, late_not_won}
use Rattle.sz_workers.proofs.working.settle.Goals as goal

-- the shard was won
pub keep-requires-clause-ready : goal.keep-requires-clause-ready
keep-requires-clause-ready g c =
    subst (λ s. IsAtWork c.settle.new.pass (longer_by c.args.pocket.now (s ∷ [])))
    (sym (ap (λ r. r.shard) c.in-Won.ensures.won)) (at_work_won c.args.pass.now c.settle.new.pass c.args.pocket.now
    c.args.claim.now c.args.number c.in-Won.ensures.call c.requires.ready)

pub returns-in-Won-clause-led : goal.returns-in-Won-clause-led
returns-in-Won-clause-led g c =
    leads_kept g.T.Load.died g.T.Load.is_bad c.args.ledger.now.plan c.args.pass.now c.settle.new.pass c.keep.new.pass
    c.args.claim.now c.args.number c.in-Won.ensures.call c.requires.ready.place c.requires.gave c.keep.ensures.led

-- another attempt had settled it
pub returns-in-Late-clause-hand : goal.returns-in-Late-clause-hand
returns-in-Late-clause-hand g c =
    hand_still c.args.pass.now c.settle.new.pass c.args.pocket.now (Settle c.args.claim.now c.args.number)
    (Late c.in-Late.field-0) c.in-Late.ensures.call c.requires.ready.hand

pub returns-in-Late-clause-won : goal.returns-in-Late-clause-won
returns-in-Late-clause-won g c =
    all_still c.args.pass.now c.settle.new.pass c.args.pocket.now (Settle c.args.claim.now c.args.number)
    (Late c.in-Late.field-0) c.in-Late.ensures.call (λ s is. late_not_won c.in-Late.field-0) c.requires.ready.all

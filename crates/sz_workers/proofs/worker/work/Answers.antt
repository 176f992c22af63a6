use Rattle.std.proofs.Common.{ap, sym, ◌∙◌, subst}
use Rattle.sz_attempt.specs.declared.job.Job.{Job}
use Rattle.sz_attempt.specs.Shards.{IsJob}
use Rattle.sz_workers.specs.Rounds.{IsRound}
use Rattle.sz_mean.specs.Marked.{all_tables}
use Rattle.sz_book.specs.Lanes.{LaneData}
use Rattle.sz_book_rules.specs.Plan.{IsPlan}
use Rattle.sz_claims.specs.Known.{LedgerData}
use Rattle.sz_workers.proofs.CallLemmas.{goes_self}
use Rattle.sz_workers.proofs.StartLemmas.{begins_work, in_place, not_begun, err_any, is_pocket}
use Rattle.sz_workers.proofs.worker.work.Goals as goal

pub empty_lane-requires-clause-job : goal.empty_lane-requires-clause-job
empty_lane-requires-clause-job g c = subst IsJob c.requires.job.0 c.requires.job.1

pub empty_lane-requires-clause-round : goal.empty_lane-requires-clause-round
empty_lane-requires-clause-round g c = subst IsRound c.requires.round.0 c.requires.round.1

pub empty_lane-requires-clause-plan : goal.empty_lane-requires-clause-plan
empty_lane-requires-clause-plan g c = c.plan.ensures.value ∙ c.requires.plan

pub empty_lane-requires-clause-decls : goal.empty_lane-requires-clause-decls
empty_lane-requires-clause-decls g c = c.tables.ensures.value ∙ ap (λ (j : Job). all_tables j.compiled) c.requires.job.0

-- there was no memory for a pocket
pub returns-in_err-pocket-clause-goes : goal.returns-in_err-pocket-clause-goes
returns-in_err-pocket-clause-goes g c = goes_self c.args.pass.now

pub returns-in_err-pocket-clause-place : goal.returns-in_err-pocket-clause-place
returns-in_err-pocket-clause-place g c =
    in_place c.args.pass.now
    (subst (λ (l : LedgerData). IsPlan l.plan) (sym c.requires.pass.0)
    (subst IsPlan c.plan.ensures.value c.empty_lane.ensures.plans))
    c.saw_a_legal_history.ensures.legal c.saw_a_legal_history.ensures.own

pub returns-in_err-pocket-clause-begun : goal.returns-in_err-pocket-clause-begun
returns-in_err-pocket-clause-begun g c =
    err_any c.from_residual.result _ (not_begun _ _ c.args.ledger.now.plan c.args.pass.now)

-- the pocket is empty at first
pub run_tickets-requires-clause-of : goal.run_tickets-requires-clause-of
run_tickets-requires-clause-of g c = (c.requires.pass.0, sym c.requires.plan)

pub run_tickets-requires-clause-ready : goal.run_tickets-requires-clause-ready
run_tickets-requires-clause-ready g c =
    let is = c.in_ok-pocket.ensures.value in
    let of = ap (λ (l : LedgerData). l.plan) c.requires.pass.0 in
    begins_work c.args.pass.now c.in_ok-pocket.pocket c.requires.pass.1
    (subst (λ (l : LedgerData). IsPlan l.plan) (sym c.requires.pass.0)
    (subst IsPlan c.plan.ensures.value c.empty_lane.ensures.plans))
    c.saw_a_legal_history.ensures.legal c.saw_a_legal_history.ensures.own
    (ap (λ (k : LaneData). k.plan) is ∙ sym c.requires.plan ∙ sym of) (ap (λ (k : LaneData). k.shards) is)

-- the worker is done
pub returns-clause-plan : goal.returns-clause-plan
returns-clause-plan g c = c.run_tickets.ensures.grows.plan
    ∙ ap (λ (k : LaneData). k.plan) c.in_ok-pocket.ensures.value ∙ sym c.requires.plan

pub returns-clause-worked : goal.returns-clause-worked
returns-clause-worked g c = (
  is_pocket c.run_tickets.new.pass c.run_tickets.new.pocket c.run_tickets.ensures.hand c.in_ok-run_tickets.ensures.won,
  c.in_ok-run_tickets.ensures.worked,
)

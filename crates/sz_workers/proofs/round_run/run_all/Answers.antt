use Rattle.std.proofs.Common.{◌+◌, ap, sym, ◌∙◌, subst}
use Rattle.std.specs.Prelude.{IfOk, ℕ}
use Rattle.sz_attempt.specs.declared.job.Job.{Job}
use Rattle.sz_mean.specs.Marked.{all_tables}
use Rattle.sz_book_rules.specs.Plan.{PlanData, IsPlan}
use Rattle.sz_workers.specs.Rounds.{shards_of}
use Rattle.sz_claims.specs.Known.{AreEmpty}
use Rattle.sz_workers.specs.Closing.{IsAlone, IsLeft}
use Rattle.sz_workers.specs.Parts.{Dies}
use Rattle.sz_workers.proofs.StartLemmas.{lanes_few, can_work, is_alone}
use Rattle.sz_workers.proofs.round_run.run_all.Goals as goal

pub empty_lanes-requires-clause-decls : goal.empty_lanes-requires-clause-decls
empty_lanes-requires-clause-decls g c =
    c.tables.ensures.value ∙ ap (λ (j : Job). all_tables j.compiled) c.requires.set.job_is

-- the ledger begins with these lanes
pub make-requires-clause-few : goal.make-requires-clause-few
make-requires-clause-few g c =
    lanes_few c.args.workers _ (c.in_ok-lanes.ensures.count ∙ c.div_ceil.ensures) c.requires.workers.1

pub make-requires-clause-empty : goal.make-requires-clause-empty
make-requires-clause-empty g c =
    subst (λ (p : PlanData). AreEmpty p c.in_ok-lanes.lanes.items)
    (sym c.in_ok-copy.ensures.value) c.in_ok-lanes.ensures.empty

-- workers can work on it
pub ready_workers-requires-clause-set : goal.ready_workers-requires-clause-set
ready_workers-requires-clause-set g c =
    can_work g.N.RoundName.job g.N.RoundName.round c.args.job.now c.args.round.now c.args.plan.now
    c.in_ok-ledger.ledger c.requires.set (c.in_ok-ledger.ensures.value.0 ∙ c.in_ok-copy.ensures.value)

pub ready_workers-requires-clause-lanes : goal.ready_workers-requires-clause-lanes
ready_workers-requires-clause-lanes g c =
    (c.requires.workers.0, c.in_ok-ledger.ensures.value.1 ∙ c.in_ok-lanes.ensures.count ∙ c.div_ceil.ensures)

pub ready_workers-requires-clause-alone : goal.ready_workers-requires-clause-alone
ready_workers-requires-clause-alone g c =
    is_alone c.in_ok-ledger.ledger c.in_ok-ledger.first (c.args.workers + 1)
    (subst IsPlan (sym (c.in_ok-ledger.ensures.value.0 ∙ c.in_ok-copy.ensures.value)) c.requires.set.plans)
    c.in_ok-ledger.ensures.value.2

-- all are back
pub close_all-requires-clause-alone : goal.close_all-requires-clause-alone
close_all-requires-clause-alone g c =
    subst (λ (n : ℕ). IsAlone c.in_ok-ledger.ledger n c.ready_workers.new.first)
    (sym c.in_ok-back.ensures.count) c.in_ok-ready.ensures.alone

pub close_all-requires-clause-back : goal.close_all-requires-clause-back
close_all-requires-clause-back g c = c.in_ok-back.ensures.back c.in_ok-ledger.ledger c.in_ok-ready.ensures.fresh

pub returns : goal.returns
returns g c =
    record {
      left = subst (λ (p : PlanData). IfOk c.close_all.result (λ left. IsLeft
          (λ s k. Dies g.N.RoundName.job (shards_of g.N.RoundName.round) s k) p
          left.0.lanes.items left.1.items left.0.settled left.0.deaths))
          (c.in_ok-ledger.ensures.value.0 ∙ c.in_ok-copy.ensures.value) c.close_all.ensures.left;
    }

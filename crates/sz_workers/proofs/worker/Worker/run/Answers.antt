use Rattle.std.proofs.Common.{sym, subst, refl}
use Rattle.sz_claims.specs.Known.{PassData}
use Rattle.sz_workers.specs.Closing.{IsBack}
use Rattle.sz_attempt.specs.Shards.{IsJob}
use Rattle.sz_workers.specs.Rounds.{IsRound}
use Rattle.sz_workers.proofs.StartLemmas.{fresh_holds, is_back}
use Rattle.sz_workers.proofs.worker.Worker.run.Goals as goal

-- the worker is ready
pub work-requires-clause-job : goal.work-requires-clause-job
work-requires-clause-job g c κs within = let can = c.self.invariant.can in
    (can.job_is, subst IsJob (sym can.job_is) can.job_runs)

pub work-requires-clause-round : goal.work-requires-clause-round
work-requires-clause-round g c κs within = let can = c.self.invariant.can in
    (can.round_is, subst IsRound (sym can.round_is) can.round_runs)

pub work-requires-clause-plan : goal.work-requires-clause-plan
work-requires-clause-plan g c κs within = c.self.invariant.can.plan

pub work-requires-clause-pass : goal.work-requires-clause-pass
work-requires-clause-pass g c κs within =
    let fresh = c.self.invariant.fresh in (fresh.of, fresh_holds _ _ _ fresh)

pub work-requires-clause-lane : goal.work-requires-clause-lane
work-requires-clause-lane g c κs within = c.self.invariant.lane

pub returns : goal.returns
returns g c =
    let v : PassData = c.self.inside.pass in
    record {
      back = subst (λ (u : PassData). IsBack u.ledger u.number c.work.new.pass c.in_ok-pocket.pocket) c.self.view_is
          (is_back v.ledger v c.work.new.pass c.in_ok-pocket.pocket c.work.ensures.goes
          c.in_ok-pocket.ensures.worked.0 c.self.invariant.fresh.home refl);
    }

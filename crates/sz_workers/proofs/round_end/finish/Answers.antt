use Rattle.std.proofs.Common.{length, sym, ap, ◌∙◌, subst, arith}
use Rattle.sz_workers.specs.Outcomes.{outcome_from}
use Rattle.sz_workers.specs.Rounds.{shards_of, EndsRound}
use Rattle.sz_workers.specs.RoundRuns.{one_too_many}
use Rattle.sz_workers.proofs.EndLemmas.{few_skipped, fault_decides, tables_end}
use Rattle.sz_workers.proofs.round_end.finish.Goals as goal

-- of all shards together one record is too many
pub returns-in-Some-one_too_many : goal.returns-in-Some-one_too_many
returns-in-Some-one_too_many g c =
    let job = c.args.job.now in
    let round = c.args.round.now in
    let l = c.loop-place in
    let same = ap (one_too_many job round) c.as_slice-faults.ensures.value in
    record {
      value = subst (EndsRound job.compiled (outcome_from job round.passed (shards_of round)))
          (sym c.fault_end.ensures.value) (fault_decides g.N.RoundName.job g.N.RoundName.round job round
          c.args.plan.now c.requires.set l.pool.part.total l.pool.part.first
          l.pool.shards l.place l.invariant.0 l.invariant.1.front
          (omega (arith, c.loop-place-test.false, c.shards-place-end.ensures.value))
          c.in-Some-one_too_many.one (sym same ∙ sym c.one_too_many.ensures.value ∙ c.in-Some-one_too_many.is));
    }

pub count_of-requires : goal.count_of-requires
count_of-requires g c = record {
  few = few_skipped c.args.job.now c.args.round.now c.as_slice-faults.result.now
      (sym c.one_too_many.ensures.value ∙ c.in-None.is);
}

-- all shards are in the pool, and none decides
pub returns : goal.returns
returns g c =
    let job = c.args.job.now in
    let round = c.args.round.now in
    let l = c.loop-place in
    let same = ap (one_too_many job round) c.as_slice-faults.ensures.value in
    record {
      value = tables_end g.N.RoundName.job g.N.RoundName.round job round
          c.args.plan.now c.requires.set l.pool.part.total l.pool.part.first
          l.pool.shards l.place l.invariant.0 l.invariant.1.front c.tables_forget_the_order.ensures.same
          (omega (arith, c.loop-place-test.false, c.shards-place-end.ensures.value))
          (sym same ∙ sym c.one_too_many.ensures.value ∙ c.in-None.is) c.count_of.result
          (c.count_of.ensures.value ∙ ap length c.as_slice-faults.ensures.value);
    }

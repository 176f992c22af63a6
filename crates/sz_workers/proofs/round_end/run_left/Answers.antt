use Rattle.std.proofs.Common.{◌+◌, sym, ap, ◌∙◌, subst}
use Rattle.sz_workers.specs.Outcomes.{lost, outcome_from}
use Rattle.sz_workers.specs.Rounds.{shards_of, EndsRound}
use Rattle.sz_workers.specs.declared.first_faults.FirstFaults.{FirstFaults}
use Rattle.sz_workers.specs.RoundRuns.{RestEnds}
use Rattle.sz_workers.proofs.RestLemmas.{lost_ends}
use Rattle.sz_workers.proofs.EndLemmas.{part_is_one, bad_within, bad_is_end}
use Rattle.sz_workers.proofs.round_end.run_left.Goals as goal

-- all its attempts died, and none in front decides
pub returns-in-Lost-clause-value : goal.returns-in-Lost-clause-value
returns-in-Lost-clause-value g c =
    let job = c.args.job.now in
    let round = c.args.round.now in
    let end = subst (RestEnds job round c.args.place) c.in-Lost.is c.in_ok-run_shard.ensures.value in
    lost_ends job round c.args.place end.0 c.requires.within end.1 end.2 c.requires.open ∙ ap
    (λ n. lost (round.first_shard + n)) (sym c.from.ensures)

-- with its records one is too many
pub get-requires : goal.get-requires
get-requires g c =
    let job = c.args.job.now in
    let round = c.args.round.now in
    let pool = c.args.pool.now in
    let theirs = c.first_faults-theirs.ensures.value in
    let end = subst (RestEnds job round c.args.place) c.in-Bad.is c.in_ok-run_shard.ensures.value in
    record {
      within = bad_within g.N.RoundName.job g.N.RoundName.round job round
          c.args.plan.now c.requires.set pool.part.total pool.part.first
          c.first_faults-theirs.result c.in_ok-both-in-Bad.both pool.shards c.args.place c.in-Bad.faults
          c.requires.holds c.requires.front
          c.requires.absent end (ap (λ (f : FirstFaults). f.faults) theirs) (ap (λ (f : FirstFaults). f.most) theirs)
          c.in_ok-both-in-Bad.ensures.value;
    }

pub returns-in_ok-both-in-Bad-clause-value : goal.returns-in_ok-both-in-Bad-clause-value
returns-in_ok-both-in-Bad-clause-value g c =
    let job = c.args.job.now in
    let round = c.args.round.now in
    let pool = c.args.pool.now in
    let theirs = c.first_faults-theirs.ensures.value in
    let end = subst (RestEnds job round c.args.place) c.in-Bad.is c.in_ok-run_shard.ensures.value in
    subst (EndsRound job.compiled (outcome_from job round.passed (shards_of round))) (sym c.fault_end.ensures.value)
    (bad_is_end g.N.RoundName.job g.N.RoundName.round job round
    c.args.plan.now c.requires.set pool.part.total pool.part.first
    c.first_faults-theirs.result c.in_ok-both-in-Bad.both pool.shards c.args.place c.in-Bad.faults c.requires.holds
    c.requires.front c.requires.absent end (ap (λ (f : FirstFaults). f.faults) theirs)
    (ap (λ (f : FirstFaults). f.most) theirs) c.in_ok-both-in-Bad.ensures.value c.get.result.now c.get.ensures.value)

-- its part holds it
pub add_shard-requires-clause-one : goal.add_shard-requires-clause-one
add_shard-requires-clause-one g c =
    let job = c.args.job.now in
    let round = c.args.round.now in
    let end = subst (RestEnds job round c.args.place) c.in-Part.is c.in_ok-run_shard.ensures.value in
    part_is_one g.N.RoundName.job g.N.RoundName.round job round
    c.args.plan.now c.requires.set c.in-Part.total c.in-Part.faults
    c.first_faults.result c.args.place end (ap (λ (f : FirstFaults). f.faults) c.first_faults.ensures.value)
    (ap (λ (f : FirstFaults). f.most) c.first_faults.ensures.value)

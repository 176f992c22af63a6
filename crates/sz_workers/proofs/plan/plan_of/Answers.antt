use Rattle.std.proofs.Common.{ap, sym, subst, ◌∙◌}
use Rattle.sz_workers.specs.RoundTickets.{tickets_upto, IsPlanOf}
use Rattle.sz_workers.proofs.PlanLemmas.{makes_plan, plan_of_round}
use Rattle.sz_workers.proofs.plan.plan_of.Goals as goal

-- the tickets make a plan
pub new-requires : goal.new-requires
new-requires c =
    let round = c.args.round.now in
    let made = c.in_ok-tickets.ensures.value
    ∙ ap (λ twice. tickets_upto twice round.first_shard c.len-shards.result) c.as_slice.ensures.value in
    makes_plan c.args.job.now round
    c.len-shards.result c.in_ok-tickets.tickets c.requires.attempts c.requires.round c.len-shards.ensures.value made

-- it is that of the round
pub returns : goal.returns
returns c =
    let round = c.args.round.now in
    let made = c.in_ok-tickets.ensures.value
    ∙ ap (λ twice. tickets_upto twice round.first_shard c.len-shards.result) c.as_slice.ensures.value in
    record {
      value = subst (IsPlanOf c.args.job.now round) (sym c.new.ensures.value)
          (plan_of_round c.args.job.now round c.len-shards.result c.in_ok-tickets.tickets c.requires.attempts
          c.requires.round c.len-shards.ensures.value made);
    }

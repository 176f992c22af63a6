use Rattle.sz_workers.proofs.PlanLemmas.{upto_more}
use Rattle.sz_workers.proofs.plan.tickets_of.Goals as goal

-- one shard more has its tickets
pub loop-shard-preserved : goal.loop-shard-preserved
loop-shard-preserved c =
    upto_more c.args.twice.now c.args.first c.loop-shard.shard c.loop-shard.tickets c.add_tickets.new.tickets
    c.is_doubled-doubled.result c.loop-shard.invariant c.is_doubled-doubled.ensures.value
    c.in_ok-add_tickets.ensures.value

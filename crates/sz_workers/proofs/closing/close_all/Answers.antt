use Rattle.sz_workers.proofs.ClosingLemmas.{all_left}
use Rattle.sz_workers.proofs.closing.close_all.Goals as goal

-- each settled shard is in one lane or in one pocket
pub returns : goal.returns
returns g c =
    let end = c.close-closed.ensures.value in
    record {
      left = all_left g.T.Load.died g.T.Load.is_bad c.args.ledger c.join_all.new.first c.in_ok-pockets.pockets.items
          c.close-closed.result.lanes.items c.close-closed.result.settled c.close-closed.result.deaths
          c.close-closed.result.least_bad end.0 c.in_ok-pockets.ensures.taken end.1 end.2;
      closed = (c.join_all.new.first, end.0, c.in_ok-pockets.ensures.taken, end.1, end.2);
    }

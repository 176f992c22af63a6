use Rattle.sz_claims.specs.Rule.{view_of}
use Rattle.sz_claims.proofs.ShardLemmas.{settle_moves}
use Rattle.sz_claims.proofs.ledger.settle_found.Goals as goal

pub step-requires-clause-may : goal.step-requires-clause-may
step-requires-clause-may g c =
    record {
      live = c.requires.live;
      plain = tt;
      report = tt;
      moves =
          settle_moves c.args.shared.now.key.plan c.args.shared.now.key.lanes (view_of c.args.seat.now.me) c.args.claim.now c.args.number c.requires.drew
          c.requires.given;
    }

use Rattle.std.proofs.Common.{◌≡◌, ap, ◌∙◌, arith}
use Rattle.sz_claims.specs.Rule.{view_of, any_of, found_no_number, bit}
use Rattle.sz_claims.proofs.TicketLemmas.{number_moves, number_again}
use Rattle.sz_claims.proofs.ledger.number_found.Goals as goal

pub step-requires-clause-may : goal.step-requires-clause-may
step-requires-clause-may g c =
    let one : any_of (found_no_number c.args.claim.now.ticket) (view_of c.args.seat.now.me).mine ≡ 1 = c.requires.before ∙ ap bit c.if-before.true in
    record {
      live = c.requires.live;
      plain = tt;
      report = tt;
      moves =
          number_again c.args.shared.now.key.plan c.args.shared.now.key.lanes (view_of c.args.seat.now.me) c.args.claim.now c.requires.drew (omega arith);
    }

pub step-requires-else-before-clause-may : goal.step-requires-else-before-clause-may
step-requires-else-before-clause-may g c =
    record {
      live = c.requires.live;
      plain = tt;
      report = tt;
      moves =
          number_moves c.args.shared.now.key.plan c.args.shared.now.key.lanes (view_of c.args.seat.now.me) c.args.claim.now c.requires.drew (c.requires.before
          ∙ ap bit c.if-before.false);
    }

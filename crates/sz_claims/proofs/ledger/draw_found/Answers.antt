use Rattle.std.proofs.Common.{◌≡◌, ap, ◌∙◌, arith}
use Rattle.sz_claims.specs.Rule.{view_of, any_of, found_no_ticket, bit}
use Rattle.sz_claims.proofs.TicketLemmas.{draw_moves, draw_again}
use Rattle.sz_claims.proofs.ledger.draw_found.Goals as goal

pub step-requires-clause-may : goal.step-requires-clause-may
step-requires-clause-may g c =
    let one : any_of found_no_ticket (view_of c.args.seat.now.me).mine ≡ 1 = c.requires.no_ticket ∙ ap bit c.if-no_ticket.true in
    record {
      live = c.requires.live;
      plain = tt;
      report = tt;
      moves =
          draw_again c.args.shared.now.key.plan c.args.shared.now.key.lanes (view_of c.args.seat.now.me) (omega arith);
    }

pub step-requires-else-no_ticket-clause-may : goal.step-requires-else-no_ticket-clause-may
step-requires-else-no_ticket-clause-may g c =
    record {
      live = c.requires.live;
      plain = tt;
      report = tt;
      moves =
          draw_moves c.args.shared.now.key.plan c.args.shared.now.key.lanes (view_of c.args.seat.now.me) (c.requires.no_ticket ∙ ap bit c.if-no_ticket.false);
    }

use Rattle.std.specs.Prelude.{◌≡◌}
use Rattle.sz_workers.specs.Working.{Grows, IsAtWork}
use Rattle.sz_workers.specs.LoopTickets.{IsBetween}
use Rattle.sz_workers.proofs.LoopLeftLemmas.{tickets_left}
use Rattle.sz_workers.proofs.working.run_tickets.Given as goal

-- each ticket that was drawn has ended
abbrev pub invariant-loop-claim : goal.invariant-loop-claim
invariant-loop-claim g l =
    IsBetween g.T.Load.died g.T.Load.is_bad l.ledger.plan l.initial.pass l.pass × IsAtWork l.pass l.pocket
    × (g.M.Maker.plan l.maker ≡ g.M.Maker.plan l.initial.maker) × Grows l.initial.pocket l.pocket

abbrev pub decreases-loop-claim : goal.decreases-loop-claim
decreases-loop-claim g l = tickets_left l.pass

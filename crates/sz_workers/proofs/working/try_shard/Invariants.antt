use Rattle.std.specs.Prelude.{◌≡◌}
use Rattle.sz_book_rules.specs.History.{HasDrawn}
use Rattle.sz_book_rules.specs.Orderly.{asks}
use Rattle.sz_workers.specs.Working.{Grows, IsAtWork}
use Rattle.sz_workers.specs.LoopTickets.{Leads}
use Rattle.sz_workers.proofs.LoopLeftLemmas.{numbers_left}
use Rattle.sz_workers.proofs.working.try_shard.Given as goal

-- the ticket is to ask for a number
abbrev pub invariant-loop-number : goal.invariant-loop-number
invariant-loop-number g l =
    Leads g.T.Load.died g.T.Load.is_bad l.ledger.plan l.initial.pass l.pass l.claim.ticket asks asks
    × IsAtWork l.pass l.pocket × HasDrawn l.claim l.pass.mine
    × (g.M.Maker.plan l.maker ≡ g.M.Maker.plan l.initial.maker) × Grows l.initial.pocket l.pocket

abbrev pub decreases-loop-number : goal.decreases-loop-number
decreases-loop-number g l = numbers_left l.pass l.claim.shard

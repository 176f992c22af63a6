use Rattle.sz_claims.specs.Moves.{replies}
use Rattle.sz_claims.proofs.steps.step.Given as goal

abbrev pub ghosts-step_as : goal.ghosts-step_as
ghosts-step_as g a = record { event = a.event.now; reply = replies a.shared.now.key.plan a.event.now }

-- The rounds so far follow each other.
use Rattle.sz_journal.specs.Rounds.{AreRounds}
use Rattle.sz_journal_tests.proofs.following.are_told.Given as goal

abbrev pub invariant-loop-step : goal.invariant-loop-step
invariant-loop-step l = AreRounds l.job l.decls l.rounds

-- The journal is ready for the round of the turn.
use Rattle.sz_journal_tests.specs.Ready.{IsReady}
use Rattle.sz_journal_tests.proofs.keeping.add_all.Given as goal

abbrev pub invariant-loop-place : goal.invariant-loop-place
invariant-loop-place l = IsReady l.job l.decls l.journal l.disk

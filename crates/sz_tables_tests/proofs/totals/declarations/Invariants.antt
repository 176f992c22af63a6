-- The tables so far have the weights and the types of the tests.
use Rattle.sz_total.specs.Weights.{HaveTheirWeights}
use Rattle.sz_tables_tests.proofs.TestLemmas.{AreOfNumbers}
use Rattle.sz_tables_tests.proofs.totals.declarations.Given as goal

abbrev pub invariant-loop-name : goal.invariant-loop-name
invariant-loop-name l = HaveTheirWeights l.tables × AreOfNumbers l.tables

-- The total has the table, and took the numbers so far.
use Rattle.std.proofs.Common.{◌≡◌, [], ◌∷◌}
use Rattle.sz_save_tests.specs.Tables.{numbers_table}
use Rattle.sz_save_tests.proofs.saving.total_of.Given as goal

abbrev pub invariant-loop-one : goal.invariant-loop-one
invariant-loop-one l = (l.total.tables ≡ numbers_table l.kind ∷ []) × (l.total.count ≡ l.one-index)

-- The text so far and that of the other tables are the text of all tables.
use Rattle.std.specs.Prelude.{slice_index_or}
use Rattle.std.proofs.Common.{[]}
use Rattle.sz_print.proofs.TablesLemmas.{IsTextUpTo}
use Rattle.sz_print.proofs.tables.text_rows.Given as goal

abbrev pub invariant-loop-number : goal.invariant-loop-number
invariant-loop-number l = IsTextUpTo l.table-items (λ n. slice_index_or l.tables n []) l.number l.text.items

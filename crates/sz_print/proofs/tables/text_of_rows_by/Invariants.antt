-- The text so far and that of the other tables are the text of all tables.
use Rattle.sz_total.specs.States.{shown}
use Rattle.sz_print.proofs.TablesLemmas.{IsTextUpTo}
use Rattle.sz_print.proofs.tables.text_of_rows_by.Given as goal

abbrev pub invariant-loop-number : goal.invariant-loop-number
invariant-loop-number g l = IsTextUpTo l.table-items (shown l.total) l.number l.text.items

-- The law is proved with the lemmas on rows.
use Rattle.sz_tabs.proofs.RowsLemmas.{values_sort, least_sort, greatest_sort}
use Rattle.sz_tabs.proofs.laws.sorting_sorts.Goals as goal

pub returns : goal.returns
returns c = record { values = values_sort; least = least_sort; greatest = greatest_sort }

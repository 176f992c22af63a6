-- The law is proved with the lemmas on rows.
use Rattle.sz_tabs.proofs.RowsLemmas.{distinct_are_a_set}
use Rattle.sz_tabs.proofs.laws.distinct_values_are_a_set.Goals as goal

pub returns : goal.returns
returns c = record { set = distinct_are_a_set }

-- The law is proved with the lemmas on tables.
use Rattle.sz_total.proofs.TablesLemmas.{indexes_are_shown}
use Rattle.sz_total.proofs.laws.a_table_shows_its_indexes.Goals as goal

pub returns : goal.returns
returns c = record { shown = indexes_are_shown }

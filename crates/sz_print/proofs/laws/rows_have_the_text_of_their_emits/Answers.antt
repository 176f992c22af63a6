-- The law is proved with the lemmas on the text of tables.
use Rattle.sz_print.proofs.TablesLemmas.{rows_of_emits}
use Rattle.sz_print.proofs.laws.rows_have_the_text_of_their_emits.Goals as goal

pub returns : goal.returns
returns c = record { emits = rows_of_emits }

-- Each table finds fewer than 64 before it.
use Rattle.sz_core.proofs.LawLemmas.{at_most_64_tables}
use Rattle.sz_core.proofs.laws.there_are_at_most_64_tables.Goals as goal

pub returns : goal.returns
returns c = record { value = at_most_64_tables }

-- The law is proved with the lemmas on conversions.
use Rattle.sz_types.proofs.ConversionLemmas.{table_is_exact}
use Rattle.sz_types.proofs.laws.conversions_are_the_table.Goals as goal

pub returns : goal.returns
returns c = record { value = table_is_exact }

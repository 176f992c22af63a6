-- The law is proved with the lemmas on conversions.
use Rattle.sz_types.proofs.ConversionLemmas.{converts_itself}
use Rattle.sz_types.proofs.laws.a_type_converts_to_itself.Goals as goal

pub returns : goal.returns
returns c = record { value = converts_itself }

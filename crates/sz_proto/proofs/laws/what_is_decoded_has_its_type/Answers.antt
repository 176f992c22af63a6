use Rattle.sz_proto.proofs.TypeLemmas.{values_have_their_type}
use Rattle.sz_proto.proofs.laws.what_is_decoded_has_its_type.Goals as goal

pub returns : goal.returns
returns c = record { typed = values_have_their_type }

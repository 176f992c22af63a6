-- What is found is the first place.
use Rattle.std.proofs.Common.{arith}
use Rattle.sz_builtin.proofs.PlaceLemmas.{byte_place_is, one_byte_is}
use Rattle.sz_builtin.proofs.searching.byte_place.Goals as goal

pub returns-in-len1-clause-value : goal.returns-in-len1-clause-value
returns-in-len1-clause-value c =
    let least = c.in-len1.len_at_least in
    let most = c.in-len1.len_below in
    one_byte_is _ _ _ (omega (arith, least, most)) c.memchr.ensures

pub returns-in_default-clause-value : goal.returns-in_default-clause-value
returns-in_default-clause-value c = byte_place_is _ _ _ c.find.ensures

use Rattle.sz_parse.proofs.Whole.{not_both, one_place}
use Rattle.sz_parse.proofs.laws.refusal_is_unique.Goals as goal

pub returns : goal.returns
returns c = record { none = not_both; one = one_place }

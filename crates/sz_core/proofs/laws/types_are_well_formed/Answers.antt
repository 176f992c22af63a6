-- Each form gives a well-formed type, and each item declares well-formed ones.
use Rattle.sz_core.proofs.TypeLemmas.{node_formed, record_formed, static_formed, function_formed}
use Rattle.sz_core.proofs.laws.types_are_well_formed.Goals as goal

pub returns : goal.returns
returns c = record {
  expressions = λ g e has h. node_formed g has e h;
  records = record_formed;
  statics = static_formed;
  functions = function_formed;
}

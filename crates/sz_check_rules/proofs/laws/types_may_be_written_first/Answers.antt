-- The law is that of types declared first.
use Rattle.sz_check_rules.proofs.WrittenTypes.{types_first, no_types}
use Rattle.sz_check_rules.proofs.laws.types_may_be_written_first.Goals as goal

pub returns : goal.returns
returns c = record {
  value = λ types statements program declares formed apart none.
      types_first types statements program declares formed apart none;
  no_types = no_types;
}

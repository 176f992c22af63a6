-- The law is one of the worked examples.
use Rattle.sz_check_rules.proofs.StandardFacts.{small_is_judged}
use Rattle.sz_check_rules.proofs.laws.a_small_program_is_judged.Goals as goal

pub returns : goal.returns
returns c = record { value = small_is_judged }

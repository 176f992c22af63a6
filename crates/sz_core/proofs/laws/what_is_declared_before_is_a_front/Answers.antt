-- Each item adds to one list at most, after all that is there.
use Rattle.sz_core.proofs.LawLemmas.{statics_before, functions_before, tables_before}
use Rattle.sz_core.proofs.laws.what_is_declared_before_is_a_front.Goals as goal

pub returns : goal.returns
returns c = record { statics = statics_before; functions = functions_before; tables = tables_before }

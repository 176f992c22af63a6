-- No call in a static's value may be of a function that emits.
use Rattle.sz_core.proofs.LawLemmas.{statics_are_quiet}
use Rattle.sz_core.proofs.laws.statics_emit_nothing.Goals as goal

pub returns : goal.returns
returns c = record { value = statics_are_quiet }

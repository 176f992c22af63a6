use Rattle.sz_mean.proofs.EmitCosts.{emits_are_paid}
use Rattle.sz_mean.proofs.laws.each_emit_takes_a_tick.Goals as goal

pub returns : goal.returns
returns c = record { few = emits_are_paid }

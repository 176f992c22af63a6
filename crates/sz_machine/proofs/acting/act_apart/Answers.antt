-- The answer is the same.
use Rattle.sz_machine.proofs.acting.act_apart.Goals as goal

pub returns : goal.returns
returns c = record { value = rw c.rebuilt.ensures.value c.act_seldom.ensures.value }

-- The answer is the same.
use Rattle.sz_machine_rows.proofs.run_state.RunState.store_apart.Goals as goal

pub returns : goal.returns
returns c = record { value = rw c.rebuilt.ensures.value c.store_part.ensures.value }

use Rattle.szl.proofs.CompleteLemmas.{never_rises}
use Rattle.szl.proofs.in_memory.szl_in_memory.Goals as goal

-- the counts of these devices stand at 0
pub returns-clause-complete : goal.returns-clause-complete
returns-clause-complete g c = c.szl_main.ensures.complete never_rises never_rises

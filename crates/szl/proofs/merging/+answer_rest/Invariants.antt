-- One file less is left at each step.
use Rattle.std.proofs.Common.{length}
use Rattle.szl.proofs.merging.+answer_rest.Given as goal

abbrev pub decreases-answer_rest : goal.decreases-answer_rest
decreases-answer_rest g l = length l.names.now

-- So many passes were made, each of a worker that has done nothing.
use Rattle.std.specs.Prelude.{length}
use Rattle.sz_workers.specs.Closing.{AreFresh, IsAlone}
use Rattle.sz_workers.proofs.round_run.ready_workers.Given as goal

abbrev pub invariant-loop-number : goal.invariant-loop-number
invariant-loop-number g l = IsAlone l.ledger (length l.workers.items) l.first × AreFresh l.ledger 1 l.workers.items

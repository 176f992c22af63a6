-- So many lanes are made, and none has a shard.
use Rattle.std.specs.Prelude.{◌≡◌, length}
use Rattle.sz_claims.specs.Known.{AreEmpty}
use Rattle.sz_workers.proofs.round_run.empty_lanes.Given as goal

abbrev pub invariant-loop-made : goal.invariant-loop-made
invariant-loop-made g l = AreEmpty l.plan l.lanes.items × (length l.lanes.items ≡ l._made)

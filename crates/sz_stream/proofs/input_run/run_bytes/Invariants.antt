use Rattle.std.proofs.Common.{◌≡◌, ◌+◌, ◌-◌, ◌^◌, [], true, Some}
use Rattle.std.specs.Prelude.{is_some}
use Rattle.sz_stream.specs.Inputs.{nothing}
use Rattle.sz_stream.specs.InputRuns.{Gathers}
use Rattle.sz_stream.proofs.input_run.run_bytes.Given as goal

-- the records before those at hand were run, and no more come
abbrev pub invariant-loop-total : goal.invariant-loop-total
invariant-loop-total g l = record {
  gathered : Gathers nothing l.job l.settings.frame l.settings.shard l.intake l.total (Some l.bytes) (Some []);
  known : is_some l.intake.ending ≡ true;
}

-- how many records there may still be
abbrev pub decreases-loop-total : goal.decreases-loop-total
decreases-loop-total g l = 2 ^ 31 + 2 - l.intake.first

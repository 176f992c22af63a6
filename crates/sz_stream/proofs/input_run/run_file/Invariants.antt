use Rattle.std.proofs.Common.{◌+◌, ◌-◌, ◌^◌, ◌<◌, vec_len, IsTrue}
use Rattle.sz_io.specs.Opened.{KeepsOtherFiles}
use Rattle.sz_stream.specs.Inputs.{nothing}
use Rattle.sz_stream.specs.InputRuns.{Gathers}
use Rattle.sz_stream.proofs.input_run.run_file.Given as goal

-- the records before those at hand were run
abbrev pub invariant-loop-total : goal.invariant-loop-total
invariant-loop-total g l = record {
  given : IsTrue (g.F.Files.given l.files l.file);
  room : 0 < vec_len l.buffer;
  gathered : Gathers nothing l.job l.settings.frame l.settings.shard l.intake l.total
      (g.F.Files.left l.fn.files l.file) (g.F.Files.left l.files l.file);
  kept : KeepsOtherFiles
      g.F.Files.held g.F.Files.left g.F.Files.given g.F.Files.names g.F.Files.faults l.file l.fn.files l.files;
}

-- how many records there may still be
abbrev pub decreases-loop-total : goal.decreases-loop-total
decreases-loop-total g l = 2 ^ 31 + 2 - l.intake.first

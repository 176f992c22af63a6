use Rattle.std.proofs.Common.{◌≡◌, ◌⊎◌, length, IsTrue}
use Rattle.sz_io.specs.Opened.{KeepsOtherFiles}
use Rattle.sz_stream.specs.InputRuns.{CanRead, Fills, ReadsNoMore, left_to_read}
use Rattle.sz_stream.proofs.input_run.fill.Given as goal

-- pieces were read and taken in
abbrev pub invariant-loop-intake : goal.invariant-loop-intake
invariant-loop-intake g l = record {
  given : IsTrue (g.F.Files.given l.files l.file);
  can_read : CanRead l.intake;
  fills : Fills l.fn.intake l.intake (g.F.Files.left l.fn.files l.file) (g.F.Files.left l.files l.file);
  wanted : (l.files ≡ l.fn.files)
      ⊎ ReadsNoMore (length l.fn.buffer) l.fn.intake l.intake (g.F.Files.left l.fn.files l.file)
      (g.F.Files.left l.files l.file);
  first : l.intake.first ≡ l.fn.intake.first;
  first_shard : l.intake.round.first_shard ≡ l.fn.intake.round.first_shard;
  kept : KeepsOtherFiles
      g.F.Files.held g.F.Files.left g.F.Files.given g.F.Files.names g.F.Files.faults l.file l.fn.files l.files;
}

-- how many bytes may still be read
abbrev pub decreases-loop-intake : goal.decreases-loop-intake
decreases-loop-intake g l = left_to_read l.intake.ending l.intake.framer

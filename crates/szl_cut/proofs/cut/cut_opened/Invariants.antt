-- what was read of the file is noted
use Rattle.std.proofs.Common.{◌<◌, vec_len, IsTrue}
use Rattle.sz_io.specs.Opened.{KeepsOtherFiles}
use Rattle.szl_cut.specs.Reading.{Reaches, left_to_read}
use Rattle.szl_cut.proofs.cut.cut_opened.Given as goal

abbrev pub invariant-loop-progress : goal.invariant-loop-progress
invariant-loop-progress g l = record {
  given : IsTrue (g.F.Files.given l.files l.file);
  room : 0 < vec_len l.buffer;
  reached : Reaches l.size l.progress (g.F.Files.left l.fn.files l.file) (g.F.Files.left l.files l.file);
  kept : KeepsOtherFiles
      g.F.Files.held g.F.Files.left g.F.Files.given g.F.Files.names g.F.Files.faults l.file l.fn.files l.files;
}

-- how many bytes may still be read
abbrev pub decreases-loop-progress : goal.decreases-loop-progress
decreases-loop-progress g l = left_to_read l.progress.framer

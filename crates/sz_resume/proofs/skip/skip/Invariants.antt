use Rattle.std.proofs.Common.{◌≡◌, length, IsTrue}
use Rattle.sz_io.specs.Opened.{KeepsOtherFiles}
use Rattle.sz_resume.proofs.SkipLemmas.{HasDropped}
use Rattle.sz_resume.proofs.skip.skip.Given as goal

-- pieces were dropped
abbrev pub invariant-loop-left : goal.invariant-loop-left
invariant-loop-left g l = record {
  given : IsTrue (g.F.Files.given l.files l.file);
  room : length l.buffer ≡ length l.fn.buffer;
  has : HasDropped (g.F.Files.left l.fn.files l.file) (g.F.Files.left l.files l.file) l.bytes l.left;
  kept : KeepsOtherFiles g.F.Files.held g.F.Files.left g.F.Files.given g.F.Files.names g.F.Files.faults l.file l.fn.files l.files;
}

abbrev pub decreases-loop-left : goal.decreases-loop-left
decreases-loop-left g l = l.left

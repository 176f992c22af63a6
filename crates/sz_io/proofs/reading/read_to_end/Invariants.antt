-- How far the file has been read.
use Rattle.std.proofs.Common.{length, ◌+◌, ◌-◌, ◌≤◌, take}
use Rattle.std.specs.Io.KnownBytes.{Consumes}
use Rattle.sz_io.specs.Opened.{KeepsOtherFiles}
use Rattle.sz_io.proofs.reading.read_to_end.Given as goal

-- The bytes before `filled` are those that the file gave, and no other file was touched.
abbrev pub invariant-loop-filled : goal.invariant-loop-filled
invariant-loop-filled g l = record {
  in_range : l.filled ≤ length l.bytes.items;
  at_most : length l.bytes.items ≤ l.limit + 1;
  read : Consumes (g.F.Files.left l.fn.files l.file) (g.F.Files.left l.files l.file) (take l.filled l.bytes.items);
  kept : KeepsOtherFiles
      g.F.Files.held g.F.Files.left g.F.Files.given g.F.Files.names g.F.Files.faults l.file l.fn.files l.files;
}

abbrev pub decreases-loop-filled : goal.decreases-loop-filled
decreases-loop-filled g l = l.limit + 1 - l.filled

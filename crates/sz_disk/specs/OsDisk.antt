-- The file of a journal, as its callers see it: nothing is told of its bytes.
use Rattle.std.specs.Prelude.{ℕ}
use Rattle.sz_disk.specs.declared.os_disk.OsDisk.{OsDisk}

-- how many calls have failed
abbrev pub file_faults : OsDisk → ℕ
file_faults disk = disk.faults

-- A journal that is ready for a further round.
use Rattle.std.specs.Prelude.{List, Some}
use Rattle.sz_types.specs.Tables.{Declaration}
use Rattle.sz_disk.specs.Crashes.{told}
use Rattle.sz_disk.specs.MemDisk.{disk_bytes, DiskLeaves}
use Rattle.sz_disk.specs.declared.mem_disk.MemDisk.{MemDisk}
use Rattle.sz_journal.specs.declared.job.JobBytes.{JobBytes}
use Rattle.sz_journal.specs.Journal.{rounds_of, IsOf, KeepsRounds}
use Rattle.sz_journal.specs.Kept.{tail_of}
use Rattle.sz_journal.specs.declared.journal.Journal.{Journal}

-- the journal is one of the job, and a crash leaves what a read gives, which spells the job and its rounds
pub record IsReady (job : JobBytes) (decls : List Declaration) (journal : Journal) (disk : MemDisk) : Type 0 where
  pub is_of : IsOf job (tail_of journal)
  pub keeps : KeepsRounds (Some (disk_bytes disk)) (told (DiskLeaves disk)) job decls (rounds_of (tail_of journal))

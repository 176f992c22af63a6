-- A journal that was opened is ready.
use Rattle.std.proofs.Common.{refl}
use Rattle.sz_disk.specs.MemDisk.{disk_bytes}
use Rattle.sz_journal_tests.proofs.keeping.run.Goals as goal

pub add_all-requires : goal.add_all-requires
add_all-requires c = record {
  is_of = c.in-Ok.ensures.is_of;
  keeps = c.in-Ok.ensures.ok (disk_bytes c.args.disk.now) refl;
}

-- Two looks at the disk write nothing.
use Rattle.sz_disk.proofs.LeaveLemmas.{nothing_both}
use Rattle.sz_disk.proofs.reading.read_gate.Goals as goal

pub returns-clause-kept : goal.returns-clause-kept
returns-clause-kept g c =
    nothing_both g.K.Disk.bytes g.K.Disk.may_leave g.K.Disk.time g.K.Disk.left_since g.K.Disk.faults c.args.disk.now
    c.read_byte.new.disk c.read_entry.new.disk c.read_byte.ensures.kept c.read_entry.ensures.kept

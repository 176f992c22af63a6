-- A read writes nothing.
use Rattle.sz_disk.proofs.LeaveLemmas.{nothing_by_call}
use Rattle.sz_disk.proofs.reading.fill.Goals as goal

pub returns-in-Ok-clause-kept : goal.returns-in-Ok-clause-kept
returns-in-Ok-clause-kept g c =
    nothing_by_call g.K.Disk.bytes g.K.Disk.may_leave g.K.Disk.time g.K.Disk.left_since g.K.Disk.faults
    c.args.disk.now c.read_at.new.self
    (g.met.K.Disk.only_now c.args.disk.now) c.read_at.ensures.same c.read_at.ensures.no_more c.read_at.ensures.kept

pub returns-in-Err-clause-kept : goal.returns-in-Err-clause-kept
returns-in-Err-clause-kept g c =
    nothing_by_call g.K.Disk.bytes g.K.Disk.may_leave g.K.Disk.time g.K.Disk.left_since g.K.Disk.faults
    c.args.disk.now c.read_at.new.self
    (g.met.K.Disk.only_now c.args.disk.now) c.read_at.ensures.same c.read_at.ensures.no_more c.read_at.ensures.kept

-- Bytes are written over a disk at rest, and synced.
use Rattle.std.proofs.Common.{length}
use Rattle.sz_disk.proofs.LeaveLemmas.{leaves_write, leaves_put}
use Rattle.sz_disk.proofs.put.put.Goals as goal

pub returns-in_err-write_at-clause-leaves : goal.returns-in_err-write_at-clause-leaves
returns-in_err-write_at-clause-leaves g c held rests is_told =
    leaves_write
    g.K.Disk.may_leave g.K.Disk.time g.K.Disk.left_since g.K.Disk.faults c.args.disk.now c.write_at.new.self
    (g.K.Disk.bytes c.args.disk.now) held (record { at = c.args.at; count = length c.args.written.now })
    (g.met.K.Disk.only_now c.args.disk.now) rests is_told c.write_at.ensures.crash c.write_at.ensures.kept

pub returns-clause-leaves : goal.returns-clause-leaves
returns-clause-leaves g c held rests is_told =
    leaves_put g.K.Disk.may_leave g.K.Disk.time g.K.Disk.left_since g.K.Disk.faults c.args.disk.now
    c.write_at.new.self c.sync.new.disk g.K.Disk.bytes
    held (record { at = c.args.at; count = length c.args.written.now })
    (g.met.K.Disk.only_now c.args.disk.now) rests is_told
    c.write_at.ensures.crash c.write_at.ensures.kept c.sync.ensures.kept

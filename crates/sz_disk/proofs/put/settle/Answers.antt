-- A sync, and a look at the length.
use Rattle.sz_disk.proofs.LeaveLemmas.{nothing_by_call, nothing_both, synced_still}
use Rattle.sz_disk.proofs.put.settle.Goals as goal

pub returns-in-Ok-clause-synced : goal.returns-in-Ok-clause-synced
returns-in-Ok-clause-synced g c =
    synced_still (g.K.Disk.bytes c.sync.new.disk) (g.K.Disk.bytes c.length.new.self)
    (g.K.Disk.may_leave c.sync.new.disk) (g.K.Disk.may_leave c.length.new.self)
    c.length.ensures.same c.length.ensures.kept.told_now c.length.ensures.no_more c.in_ok-sync.ensures.synced

pub returns-in-Ok-clause-kept : goal.returns-in-Ok-clause-kept
returns-in-Ok-clause-kept g c =
    nothing_both g.K.Disk.bytes g.K.Disk.may_leave g.K.Disk.time g.K.Disk.left_since g.K.Disk.faults c.args.disk.now
    c.sync.new.disk c.length.new.self c.sync.ensures.kept (nothing_by_call g.K.Disk.bytes g.K.Disk.may_leave
    g.K.Disk.time g.K.Disk.left_since g.K.Disk.faults c.sync.new.disk c.length.new.self
    (g.met.K.Disk.only_now c.sync.new.disk) c.length.ensures.same c.length.ensures.no_more c.length.ensures.kept)

pub returns-in-Err-clause-kept : goal.returns-in-Err-clause-kept
returns-in-Err-clause-kept g c =
    nothing_both g.K.Disk.bytes g.K.Disk.may_leave g.K.Disk.time g.K.Disk.left_since g.K.Disk.faults c.args.disk.now
    c.sync.new.disk c.length.new.self c.sync.ensures.kept (nothing_by_call g.K.Disk.bytes g.K.Disk.may_leave
    g.K.Disk.time g.K.Disk.left_since g.K.Disk.faults c.sync.new.disk c.length.new.self
    (g.met.K.Disk.only_now c.sync.new.disk) c.length.ensures.same c.length.ensures.no_more c.length.ensures.kept)

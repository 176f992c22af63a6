-- Two writes, each synced: behind the gate, and of the gate.
use Rattle.std.proofs.Common.{◌++◌, ◌∷◌, ◌∙◌}
use Rattle.sz_disk.proofs.OpenLemmas.{staged, staged_rests, leaves_behind, leaves_open}
use Rattle.sz_disk.proofs.gate.open_gate.Goals as goal

pub returns-in_err-put-clause-leaves : goal.returns-in_err-put-clause-leaves
returns-in_err-put-clause-leaves g c front rest gate here rests is_told =
    leaves_behind front gate rest c.args.written.now c.args.gate here
    g.K.Disk.time g.K.Disk.left_since c.args.disk.now c.put.new.disk
    (c.put.ensures.leaves (front ++ gate ∷ rest) rests is_told)

pub returns-clause-leaves : goal.returns-clause-leaves
returns-clause-leaves g c front rest gate here rests is_told =
    let written = c.args.written.now in
    let mid = staged_rests front gate rest written c.args.gate here (g.K.Disk.bytes c.args.disk.now)
    (g.K.Disk.bytes c.put.new.disk)
    (g.K.Disk.may_leave c.put.new.disk) rests.read c.in_ok-put.ensures.read c.in_ok-put.ensures.synced in
    leaves_open front gate rest written c.args.gate here
    g.K.Disk.time g.K.Disk.left_since c.args.disk.now c.put.new.disk c.put-2.new.disk
    (c.put.ensures.leaves (front ++ gate ∷ rest) rests is_told)
    (c.put-2.ensures.leaves (staged front gate rest written c.args.gate here) mid (c.put.ensures.told ∙ is_told))

-- What was written behind the gate is an entry, with a closed gate behind it.
use Rattle.std.proofs.Common.{◌≡◌, ◌∙◌, ap, subst, Some}
use Rattle.sz_disk.specs.Entries.{with_gate}
use Rattle.sz_disk.specs.Crashing.{Rests}
use Rattle.sz_disk.proofs.EntryLemmas.{leaves_one, keeps_more}
use Rattle.sz_disk.proofs.gate.append.Goals as goal

pub returns-in_err-open_gate-clause-leaves : goal.returns-in_err-open_gate-clause-leaves
returns-in_err-open_gate-clause-leaves g c entries held rests holds at is_told =
    let is : c.deref.result.now ≡ with_gate c.args.entry.now = c.deref.ensures.value ∙ c.in_ok-written.ensures.value in
    leaves_one entries c.args.entry.now c.in_ok-written.ensures.counted g.K.Disk.time g.K.Disk.left_since
    c.args.disk.now c.open_gate.new.disk c.deref.result.now held holds is
    (c.open_gate.ensures.leaves _ holds.behind holds.gate at
    (subst (Rests (g.K.Disk.bytes c.args.disk.now) (g.K.Disk.may_leave c.args.disk.now)) holds.is rests) is_told)

pub returns-clause-leaves : goal.returns-clause-leaves
returns-clause-leaves g c entries held rests holds at is_told =
    let is : c.deref.result.now ≡ with_gate c.args.entry.now = c.deref.ensures.value ∙ c.in_ok-written.ensures.value in
    leaves_one entries c.args.entry.now c.in_ok-written.ensures.counted g.K.Disk.time g.K.Disk.left_since
    c.args.disk.now c.open_gate.new.disk c.deref.result.now held holds is
    (c.open_gate.ensures.leaves _ holds.behind holds.gate at
    (subst (Rests (g.K.Disk.bytes c.args.disk.now) (g.K.Disk.may_leave c.args.disk.now)) holds.is rests) is_told)

pub returns-clause-ok : goal.returns-clause-ok
returns-clause-ok g c entries held read holds at =
    let is : c.deref.result.now ≡ with_gate c.args.entry.now = c.deref.ensures.value ∙ c.in_ok-written.ensures.value in
    keeps_more entries c.args.entry.now c.in_ok-written.ensures.counted (g.K.Disk.bytes c.open_gate.new.disk)
    (g.K.Disk.may_leave c.open_gate.new.disk) c.deref.result.now holds.counted is
    (c.in_ok-open_gate.ensures.ok _ holds.behind holds.gate at (read ∙ ap Some holds.is))

-- The first gate is closed, and the entry is appended behind it.
use Rattle.std.proofs.Common.{[], ◌∙◌, inl, refl}
use Rattle.sz_disk.specs.Entries.{IsEmpty, IsEmptyOrHolds, HoldsOneOf}
use Rattle.sz_disk.proofs.LeaveLemmas.{leaves_if, leaves_both}
use Rattle.sz_disk.proofs.EntryLemmas.{empty_or_one}
use Rattle.sz_disk.proofs.beginning.begin.Goals as goal

pub returns-clause-ok : goal.returns-clause-ok
returns-clause-ok g c held rests none =
    let first = c.in_ok-close_first.ensures.ok held rests none in
    c.append.ensures.ok [] first.held first.rests.read first.holds refl

pub returns-clause-leaves : goal.returns-clause-leaves
returns-clause-leaves g c held rests none is_told =
    let entry = c.args.entry.now in
    let first = c.in_ok-close_first.ensures.ok held rests none in
    let closing = leaves_if g.K.Disk.time g.K.Disk.left_since c.args.disk.now c.close_first.new.disk IsEmpty
    (IsEmptyOrHolds entry) (λ image empty. inl empty) (c.close_first.ensures.leaves held rests none is_told) in
    let appending = leaves_if g.K.Disk.time g.K.Disk.left_since c.close_first.new.disk c.append.new.disk
    (HoldsOneOf [] entry) (IsEmptyOrHolds entry) (empty_or_one entry)
    (c.append.ensures.leaves [] first.held first.rests first.holds refl (c.close_first.ensures.told ∙ is_told)) in
    leaves_both g.K.Disk.time g.K.Disk.left_since c.args.disk.now c.close_first.new.disk c.append.new.disk
    (IsEmptyOrHolds entry) closing appending

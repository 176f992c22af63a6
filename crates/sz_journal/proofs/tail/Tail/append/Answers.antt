-- The entry that is appended is that of the round.
use Rattle.std.proofs.Common.{◌≡◌, ◌∙◌}
use Rattle.sz_journal.specs.Rounds.{round_bytes}
use Rattle.sz_journal.specs.Journals.{entries_of}
use Rattle.sz_journal.specs.Journal.{rounds_of}
use Rattle.sz_journal.proofs.SpellLemmas.{keeps_more, leaves_one}
use Rattle.sz_journal.proofs.tail.Tail.append.Goals as goal

pub returns-in_err-next-clause-leaves : goal.returns-in_err-next-clause-leaves
returns-in_err-next-clause-leaves g c job decls held rests is_of spells are is_told =
    let rounds = rounds_of c.args.self.now in
    let is : c.deref.result.now ≡ round_bytes c.args.round.now = c.deref.ensures.value ∙ c.in_ok-entry.ensures.value in
    leaves_one job rounds c.args.round.now c.deref.result.now is decls are spells.are
    (c.append.ensures.leaves (entries_of job rounds) held rests spells.holds is_of.end is_told)

pub returns-clause-ok : goal.returns-clause-ok
returns-clause-ok g c job decls held read is_of spells are =
    let rounds = rounds_of c.args.self.now in
    let is : c.deref.result.now ≡ round_bytes c.args.round.now = c.deref.ensures.value ∙ c.in_ok-entry.ensures.value in
    keeps_more job rounds c.args.round.now c.deref.result.now is decls are (g.K.Disk.bytes c.append.new.disk)
    (g.K.Disk.may_leave c.append.new.disk)
    (c.in_ok-next.ensures.ok (entries_of job rounds) held read spells.holds is_of.end)

pub returns-clause-leaves : goal.returns-clause-leaves
returns-clause-leaves g c job decls held rests is_of spells are is_told =
    let rounds = rounds_of c.args.self.now in
    let is : c.deref.result.now ≡ round_bytes c.args.round.now = c.deref.ensures.value ∙ c.in_ok-entry.ensures.value in
    leaves_one job rounds c.args.round.now c.deref.result.now is decls are spells.are
    (c.append.ensures.leaves (entries_of job rounds) held rests spells.holds is_of.end is_told)

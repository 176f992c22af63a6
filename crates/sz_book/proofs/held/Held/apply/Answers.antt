use Rattle.std.proofs.Common.{◌∙◌, sym, arith}
use Rattle.sz_book.proofs.ReplayLemmas.{room_for_change, room_for_shards, history_change, history_same, applies_change}
use Rattle.sz_book.proofs.held.Held.apply.Goals as goal

pub note-requires-clause-room : goal.note-requires-clause-room
note-requires-clause-room g c =
    let fits = c.take-reply.ensures.step.step.fits in
    let is = sym c.is_change-is_change.ensures.value ∙ c.if-is_change.true in
    let same = c.self.inside.changes.ok.0 in
    let low = room_for_change g.T.Load.died g.T.Load.is_bad c.self.inside.core c.self.inside.changes.items
    c.self.inside.brought _ c.args.event.now c.args.shards.now
    c.self.invariant c.is_change-is_change.ensures.sound fits is in
    omega arith

pub note-requires-clause-space : goal.note-requires-clause-space
note-requires-clause-space g c =
    room_for_shards g.T.Load.died g.T.Load.is_bad c.self.inside.core c.self.inside.changes.items c.self.inside.brought
    _ c.args.event.now c.args.shards.now
    c.self.invariant c.is_change-is_change.ensures.sound c.take-reply.ensures.step.step.fits

pub invariant_of-self : goal.invariant_of-self
invariant_of-self g c =
    let is = sym c.is_change-is_change.ensures.value ∙ c.if-is_change.true in
    rw (c.note.ensures.changes, c.note.ensures.brought, c.note.ensures.capacity)
    (history_change g.T.Load.died g.T.Load.is_bad c.self.inside.core c.take-reply.new.self c.self.inside.changes.items
    c.self.inside.brought _ c.args.event.now c.args.shards.now c.take-reply.result
    c.self.invariant c.is_change-is_change.ensures.sound c.requires.report c.take-reply.ensures.step is)

pub invariant_of-self-else-is_change : goal.invariant_of-self-else-is_change
invariant_of-self-else-is_change g c =
    let is = sym c.is_change-is_change.ensures.value ∙ c.if-is_change.false in
    history_same g.T.Load.died g.T.Load.is_bad c.self.inside.core c.take-reply.new.self c.self.inside.changes.items
    c.self.inside.brought _ c.args.event.now c.args.shards.now c.take-reply.result
    c.self.invariant c.is_change-is_change.ensures.sound c.requires.report c.take-reply.ensures.step is

pub returns-then-is_change : goal.returns-then-is_change
returns-then-is_change g c =
    let is = sym c.is_change-is_change.ensures.value ∙ c.if-is_change.true in
    record {
      applied = rw (← c.self.view_is, c.note.ensures.changes, c.note.ensures.brought)
          (applies_change c.self.inside.core c.take-reply.new.self c.self.inside.changes.items c.self.inside.brought
          c.args.event.now c.args.shards.now c.take-reply.result c.self.invariant.came c.take-reply.ensures.step is);
    }

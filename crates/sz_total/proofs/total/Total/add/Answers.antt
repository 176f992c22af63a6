-- The emit goes to its table.
use Rattle.std.proofs.Common.{◌<◌, ◌^◌, sym, subst}
use Rattle.sz_tabs.specs.Fitting.{IsEmitTo}
use Rattle.sz_total.proofs.TotalLemmas.{room_for, total_gained}
use Rattle.sz_total.proofs.OriginLemmas.{total_still}
use Rattle.sz_total.proofs.total.Total.add.Goals as goal

pub add_at-requires : goal.add_at-requires
add_at-requires c = record {
  fits = room_for c.self.inside.tables.now c.self.inside.count c.self.inside.states.items
      c.self.invariant.are c.args.emit.now
      (subst (λ s. IsEmitTo s.tables c.args.emit.now) (sym c.self.view_is) c.requires.fits)
      (subst (λ s. s.count < 2 ^ 63) (sym c.self.view_is) c.requires.room);
  short = c.requires.short;
}

pub invariant_of-self-2 : goal.invariant_of-self-2
invariant_of-self-2 c =
    total_still c.self.inside.tables.now c.self.inside.count c.args.emit.now c.self.inside.states.items
    c.add_at.new.states.items c.self.invariant c.in_ok-add_at.ensures.ok
    (subst (λ s. IsEmitTo s.tables c.args.emit.now) (sym c.self.view_is) c.requires.fits) c.requires.short

pub returns-clause-ok : goal.returns-clause-ok
returns-clause-ok c =
    total_gained c.self.inside.tables.now c.self.inside.count c.args.emit.now c.self.inside.states.items
    c.add_at.new.states.items c.args.self.now c.self.view_is c.self.invariant.are c.in_ok-add_at.ensures.ok

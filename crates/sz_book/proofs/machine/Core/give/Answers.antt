use Rattle.std.proofs.Common.{ap, sym, subst, refl, slice_set}
use Rattle.sz_book_rules.specs.Machine.{IsReturned}
use Rattle.sz_book.specs.Cores.{CoreData, ReservedData}
use Rattle.sz_book.proofs.CoreLemmas.{gives_back}
use Rattle.sz_book.proofs.RoomLemmas.{back_room, back_lists, back_kept}
use Rattle.sz_book.proofs.machine.Core.give.Goals as goal

pub add-requires : goal.add-requires
add-requires c =
    let back =
    subst (λ (d : CoreData). IsReturned d.state 0 c.args.lane c.args.shards.now) (sym c.self.view_is) c.requires in
    record {
      room = back_room c.self.inside.plan _ c.self.inside.lists.items c.args.lane c.args.shards.now
          c.index_mut.result.now c.self.invariant refl back c.index_mut.ensures.value;
    }

pub invariant_of-self : goal.invariant_of-self
invariant_of-self c =
    let back =
    subst (λ (d : CoreData). IsReturned d.state 0 c.args.lane c.args.shards.now) (sym c.self.view_is) c.requires in
    rw (c.add.ensures.value, c.set.ensures.value, c.place.ensures.value)
    (back_kept c.self.inside.plan _ c.self.inside.lists.items c.args.lane c.args.shards.now c.index_mut.result.now
    c.self.invariant refl back c.index_mut.ensures.value)

-- the lane's list goes on with these shards
pub returns : goal.returns
returns c =
    let back =
    subst (λ (d : CoreData). IsReturned d.state 0 c.args.lane c.args.shards.now) (sym c.self.view_is) c.requires in
    let lists = back_lists c.self.inside.plan _ c.self.inside.lists.items c.args.lane c.args.shards.now
    c.index_mut.result.now c.self.invariant refl back c.index_mut.ensures.value in
    let added = ap (λ (r : ReservedData). slice_set c.self.inside.lists.items c.args.lane r) c.add.ensures.value in
    rw (← c.self.view_is)
    (gives_back c.self.inside.plan _ c.args.lane c.args.shards.now back _ _ _ c.set.ensures.value
    (rw c.add.ensures.value lists) c.place.ensures.value)

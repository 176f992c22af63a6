-- The parts of the other table are received, and joined.
use Rattle.sz_types.specs.SeenTables.{seen_table}
use Rattle.sz_total.proofs.MergingLemmas.{are_sides, may_join_all, table_joined, kept_joined}
use Rattle.sz_total.proofs.one_table.OneTable.merge.Goals as goal

pub receive_all-requires : goal.receive_all-requires
receive_all-requires g c =
    let s = are_sides (seen_table c.self.inside.table.now)
    (seen_table c.other.inside.table.now) c.self.inside.count c.other.inside.count
    c.self.inside.parts.items c.other.inside.parts.items c.args.self.now c.args.other c.self.view_is c.other.view_is
    c.requires.same c.requires.few c.requires.room c.self.invariant.aggregates c.other.invariant.aggregates in
    record { as_many = s.as_many }

pub settle_all-requires : goal.settle_all-requires
settle_all-requires g c =
    let table = seen_table c.self.inside.table.now in
    let its = seen_table c.other.inside.table.now in
    let s = are_sides table its c.self.inside.count c.other.inside.count c.self.inside.parts.items
    c.other.inside.parts.items c.args.self.now c.args.other c.self.view_is c.other.view_is c.requires.same
    c.requires.few c.requires.room c.self.invariant.aggregates c.other.invariant.aggregates in
    record {
      hands = c.requires.hands;
      may = may_join_all table its
          c.self.inside.count c.other.inside.count c.self.inside.parts.items c.other.inside.parts.items
          c.receive_all.new.parts.items c.receive_all.new.parts.items s c.receive_all.ensures.value;
    }

pub invariant_of-self : goal.invariant_of-self
invariant_of-self g c =
    let table = seen_table c.self.inside.table.now in
    let its = seen_table c.other.inside.table.now in
    let s = are_sides table its c.self.inside.count c.other.inside.count c.self.inside.parts.items
    c.other.inside.parts.items c.args.self.now c.args.other c.self.view_is c.other.view_is c.requires.same
    c.requires.few c.requires.room c.self.invariant.aggregates c.other.invariant.aggregates in
    kept_joined table its c.self.inside.count c.other.inside.count c.self.inside.parts.items
    c.other.inside.parts.items c.receive_all.new.parts.items c.settle_all.new.parts.items s
    c.receive_all.ensures.value c.self.invariant c.other.invariant c.settle_all.ensures.settled

pub returns : goal.returns
returns g c =
    let table = seen_table c.self.inside.table.now in
    let its = seen_table c.other.inside.table.now in
    let s = are_sides table its c.self.inside.count c.other.inside.count c.self.inside.parts.items
    c.other.inside.parts.items c.args.self.now c.args.other c.self.view_is c.other.view_is c.requires.same
    c.requires.few c.requires.room c.self.invariant.aggregates c.other.invariant.aggregates in
    record {
      value = table_joined table its
          c.self.inside.count c.other.inside.count c.self.inside.parts.items c.other.inside.parts.items
          c.receive_all.new.parts.items c.settle_all.new.parts.items s
          c.receive_all.ensures.value c.self.invariant.placed c.other.invariant.placed
          c.settle_all.ensures.settled c.args.self.now c.args.other c.self.view_is c.other.view_is;
    }

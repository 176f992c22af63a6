-- Room is made in all tables, and then they are merged.
use Rattle.std.proofs.Common.{◌∙◌, sym}
use Rattle.sz_total.proofs.MergingLemmas.{not_refused, its_state, its_roomier, are_both, are_few, total_joined}
use Rattle.sz_total.proofs.OriginLemmas.{total_roomier, total_both}
use Rattle.sz_total.proofs.total.Total.merge_with.Goals as goal

pub invariant_of-self : goal.invariant_of-self
invariant_of-self g c =
    total_roomier c.self.inside.tables.now c.self.inside.count c.self.inside.states.items
    c.reserve_all.new.states.items c.reserve_all.ensures.kept c.self.invariant

pub invariant_of-other : goal.invariant_of-other
invariant_of-other g c =
    total_roomier c.other.inside.tables.now c.other.inside.count c.other.inside.states.items
    c.reserve_all.new.others.items c.reserve_all.ensures.others c.other.invariant

pub merge_all-requires-clause-matched : goal.merge_all-requires-clause-matched
merge_all-requires-clause-matched g c =
    let b = are_both c.self.inside.tables.now c.other.inside.tables.now c.self.inside.count c.other.inside.count
    c.self.inside.states.items c.other.inside.states.items c.args.self.now c.args.other c.self.view_is c.other.view_is
    c.requires.same c.requires.room c.other.invariant.are in
    (c.reserve_all.ensures.others.still c.self.inside.tables.now c.other.inside.count b.beside).declared
    ∙ sym (c.reserve_all.ensures.kept.still c.self.inside.tables.now c.self.inside.count c.self.invariant.are).declared

pub merge_all-requires-clause-few : goal.merge_all-requires-clause-few
merge_all-requires-clause-few g c =
    let b = are_both c.self.inside.tables.now c.other.inside.tables.now c.self.inside.count c.other.inside.count
    c.self.inside.states.items c.other.inside.states.items c.args.self.now c.args.other c.self.view_is c.other.view_is
    c.requires.same c.requires.room c.other.invariant.are in
    are_few c.self.inside.tables.now c.self.inside.count c.other.inside.count c.reserve_all.new.states.items
    c.reserve_all.new.others.items b.few
    (c.reserve_all.ensures.kept.still c.self.inside.tables.now c.self.inside.count c.self.invariant.are)
    (c.reserve_all.ensures.others.still c.self.inside.tables.now c.other.inside.count b.beside)

pub merge_all-requires-clause-room : goal.merge_all-requires-clause-room
merge_all-requires-clause-room g c =
    not_refused c.reserve_all.result (sym c.is_err.ensures.value ∙ c.if-is_err.false) c.reserve_all.ensures.ok

pub invariant_of-self-2 : goal.invariant_of-self-2
invariant_of-self-2 g c =
    let b = are_both c.self.inside.tables.now c.other.inside.tables.now c.self.inside.count c.other.inside.count
    c.self.inside.states.items c.other.inside.states.items c.args.self.now c.args.other c.self.view_is c.other.view_is
    c.requires.same c.requires.room c.other.invariant.are in
    total_both c.self.inside.tables.now c.other.inside.tables.now c.self.inside.count c.other.inside.count
    c.self.inside.states.items c.reserve_all.new.states.items c.reserve_all.new.others.items
    c.merge_all.new.states.items b.same c.self.invariant (total_roomier c.other.inside.tables.now c.other.inside.count
    c.other.inside.states.items c.reserve_all.new.others.items c.reserve_all.ensures.others c.other.invariant)
    c.reserve_all.ensures.kept c.merge_all.ensures.value

pub returns-clause-ok : goal.returns-clause-ok
returns-clause-ok g c =
    let b = are_both c.self.inside.tables.now c.other.inside.tables.now c.self.inside.count c.other.inside.count
    c.self.inside.states.items c.other.inside.states.items c.args.self.now c.args.other c.self.view_is c.other.view_is
    c.requires.same c.requires.room c.other.invariant.are in
    total_joined c.self.inside.tables.now c.self.inside.count c.other.inside.count c.self.inside.states.items
    c.reserve_all.new.states.items c.reserve_all.new.others.items c.merge_all.new.states.items c.self.invariant.are
    (c.reserve_all.ensures.others.still c.self.inside.tables.now c.other.inside.count b.beside)
    c.reserve_all.ensures.kept c.merge_all.ensures.value c.args.self.now c.args.other c.self.view_is
    (its_roomier c.self.inside.tables.now c.other.inside.count c.other.inside.states.items
    c.reserve_all.new.others.items c.args.other c.reserve_all.ensures.others
    (its_state c.self.inside.tables.now c.other.inside.tables.now c.other.inside.count c.other.inside.states.items
    c.args.other b.same c.other.view_is))

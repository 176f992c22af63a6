-- What is found gains room, and is written back; where nothing is found nothing changes.
use Rattle.std.proofs.Common.{◌≡◌, ◌∙◌, cond, Some, sym, ap, subst, IfSome}
use Rattle.std.specs.Map.{lookup}
use Rattle.std.proofs.lemmas.Result.{on_ok_weaker}
use Rattle.sz_total.specs.Aggregates.{family_of, HasRoomFor}
use Rattle.sz_total.specs.Entries.{same_indexes}
use Rattle.sz_total.proofs.ListLemmas.{same_laws}
use Rattle.sz_total.proofs.EntryLemmas.{found_replaced}
use Rattle.sz_total.proofs.JoiningLemmas.{gains_some, gains_none}
use Rattle.sz_total.proofs.joining.make_room_under.Goals as goal

pub reserve_for-requires : goal.reserve_for-requires
reserve_for-requires c =
    let found = sym c.in-Some.ensures.value in
    record { alike = subst (λ o. IfSome o (λ own. family_of c.args.other.now ≡ family_of own)) found c.requires.alike }

pub returns-in-Some-clause-ok : goal.returns-in-Some-clause-ok
returns-in-Some-clause-ok c =
    let es = c.args.lists.now.entries in
    let key = c.args.key.now in
    let now = c.reserve_for.new.aggregate in
    let found = sym c.in-Some.ensures.value in
    let written = (c.get_mut.follows.holds now).0 in
    let there = ap (lookup (same_indexes key)) written ∙ found_replaced key key es c.in-Some.own.now now found
    ∙ ap (λ b. cond b (Some now) (lookup (same_indexes key) es)) (same_laws.refl key) in
    on_ok_weaker c.reserve_for.result
    (λ room. subst (λ o. IfSome o (λ own. HasRoomFor own c.args.other.now)) (sym there) room) c.reserve_for.ensures.ok

pub returns-in-Some-clause-kept : goal.returns-in-Some-clause-kept
returns-in-Some-clause-kept c =
    let es = c.args.lists.now.entries in
    let now = c.reserve_for.new.aggregate in
    let found = sym c.in-Some.ensures.value in
    let written = (c.get_mut.follows.holds now).0 in
    gains_some c.args.key.now es _ c.in-Some.own.now now found c.reserve_for.ensures.kept written

pub returns-in-None-clause-ok : goal.returns-in-None-clause-ok
returns-in-None-clause-ok c =
    let key = c.args.key.now in
    let none = ap (λ m. lookup (same_indexes key) m.entries) c.get_mut.follows.holds-at-none
    ∙ sym c.in-None.ensures.value in
    subst (λ o. IfSome o (λ own. HasRoomFor own c.args.other.now)) (sym none) tt

pub returns-in-None-clause-kept : goal.returns-in-None-clause-kept
returns-in-None-clause-kept c =
    let es = c.args.lists.now.entries in
    let none = sym c.in-None.ensures.value in
    gains_none c.args.key.now es _ none (ap (λ m. m.entries) c.get_mut.follows.holds-at-none)

use Rattle.std.proofs.Common.{sym, subst, ap, ◌∙◌, ◌<◌, ◌≤◌, Some, length, arith}
use Rattle.sz_scope.specs.Names.{place_of}
use Rattle.sz_scope.specs.Chain.{KeepsSound}
use Rattle.sz_scope.proofs.NamesLemmas.{place_added}
use Rattle.sz_scope.proofs.SoundLemmas.{keeps_room, keeps_added}
use Rattle.sz_scope.proofs.chain.place_for.Goals as goal

-- where the name isn't added, there is more room at most
pub returns-in_err-make_room-clause-kept : goal.returns-in_err-make_room-clause-kept
returns-in_err-make_room-clause-kept c =
    keeps_room c.args.names.now c.args.newest.now.items c.make_room.new.newest.items c.make_room.ensures.kept

pub returns-in_err-add-clause-kept : goal.returns-in_err-add-clause-kept
returns-in_err-add-clause-kept c =
    subst (λ names. KeepsSound c.args.names.now names c.args.newest.now.items c.make_room.new.newest.items)
    (sym (c.in_err-add.ensures.err))
    (keeps_room c.args.names.now c.args.newest.now.items c.make_room.new.newest.items c.make_room.ensures.kept)

-- where it is, it stands at the end
pub returns-clause-place : goal.returns-clause-place
returns-clause-place c =
    ap (place_of c.args.name.now) (c.in_ok-add.ensures.ok)
    ∙ place_added c.args.name.now c.args.names.now (sym c.requires.known ∙ c.in_default.is)
    ∙ ap (λ n. Some n) (sym c.len-place.ensures.value)

pub returns-clause-kept : goal.returns-clause-kept
returns-clause-kept c =
    let room : length c.args.names.now ≤ length c.args.newest.now.items
    → length c.args.names.now < length c.make_room.new.newest.items =
    λ h. omega (
      arith,
      c.in_ok-make_room.ensures.room (omega (arith, h, c.len-place.ensures.value)),
      c.len-place.ensures.value,
    ) in
    subst (λ names. KeepsSound c.args.names.now names c.args.newest.now.items c.make_room.new.newest.items)
    (sym (c.in_ok-add.ensures.ok)) (keeps_added c.args.names.now c.args.name.now c.args.newest.now.items
    c.make_room.new.newest.items c.make_room.ensures.kept room)

-- Each turn makes room for one aggregator of the other side.
use Rattle.std.proofs.Common.{◌∙◌, subst}
use Rattle.std.specs.Map.Iter.{deref_pair}
use Rattle.std.proofs.lemmas.Map.Iter.{rest_more}
use Rattle.sz_total.proofs.TurnLemmas.{IsRoomUpTo, alike_under, looks_more, room_up_to_more, room_up_to_all}
use Rattle.sz_total.proofs.joining.make_room_in_each.Goals as goal

pub make_room_under-requires : goal.make_room_under-requires
make_room_under-requires c =
    let step = rest_more deref_pair c.loop-key.key-iterator c.next.new.self c.next.result
    (c.in-Some.key, c.in-Some.other) c.in-Some.is c.next.ensures.steps in
    let before = subst
    (IsRoomUpTo c.args.lists.now.entries c.args.others.now.entries c.loop-key.lists.entries) (step)
    c.loop-key.invariant.0 in
    record {
      alike = alike_under c.loop-key.lists.entries c.in-Some.key.now c.in-Some.other.now c.next.new.self before.alike;
    }

pub loop-key-preserved : goal.loop-key-preserved
loop-key-preserved c =
    let first = c.args.lists.now.entries in
    let all = c.args.others.now.entries in
    let current = c.loop-key.lists.entries in
    let step = rest_more deref_pair c.loop-key.key-iterator c.next.new.self c.next.result
    (c.in-Some.key, c.in-Some.other) c.in-Some.is c.next.ensures.steps in
    let before = subst (IsRoomUpTo first all current) (step) c.loop-key.invariant.0 in (
      room_up_to_more first all current c.make_room_under.new.lists.entries c.in-Some.key.now c.in-Some.other.now
          c.next.new.self c.make_room_under.ensures.kept before c.in_ok-make_room_under.ensures.ok,
      c.make_room_under.ensures.len ∙ c.loop-key.invariant.1,
      c.make_room_under.ensures.spare ∙ c.loop-key.invariant.2,
    )

pub returns-in_err-make_room_under-clause-kept : goal.returns-in_err-make_room_under-clause-kept
returns-in_err-make_room_under-clause-kept c =
    looks_more c.args.lists.now.entries c.args.others.now.entries c.loop-key.lists.entries
    c.make_room_under.new.lists.entries c.in-Some.key.now c.in-Some.other.now c.next.new.self
    c.make_room_under.ensures.kept c.loop-key.invariant.0.looks

pub returns-clause-ok : goal.returns-clause-ok
returns-clause-ok c =
    let first = c.args.lists.now.entries in
    let all = c.args.others.now.entries in
    let current = c.loop-key.lists.entries in
    room_up_to_all first all current c.into_iter-key-iterator.ensures.into_iter_gives.4
    (subst (IsRoomUpTo first all current) (c.in-None.ensures.steps.0) c.loop-key.invariant.0)

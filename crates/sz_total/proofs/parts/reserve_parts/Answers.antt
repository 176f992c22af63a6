-- Each turn makes room in one part.
use Rattle.std.proofs.Common.{◌∙◌, length, sym, ap, arith, refl}
use Rattle.std.specs.Prelude.{slice_get}
use Rattle.std.proofs.lemmas.Option.{slice_get_read}
use Rattle.sz_total.proofs.RoomLemmas.{part_room_none, alike_at, looks_more, part_room_more, all_part_room}
use Rattle.sz_total.proofs.parts.reserve_parts.Goals as goal

pub loop-at-init : goal.loop-at-init
loop-at-init c = part_room_none c.args.others.now.items c.args.parts.now.items

pub reserve_part-requires : goal.reserve_part-requires
reserve_part-requires c =
    let others = c.deref-other-items.result.now in
    let there =
    slice_get_read others (length others) c.loop-at.at c.other-item.result refl c.loop-at-test.true c.other-item.is in
    record {
      alike = alike_at c.loop-at.at c.args.others.now.items c.args.parts.now.items c.loop-at.parts.items
          c.other-item.result c.requires.as_many c.requires.alike c.loop-at.invariant
          (ap (λ l. slice_get l c.loop-at.at) (sym c.deref-other-items.ensures.value) ∙ there);
    }

pub returns-in_err-reserve_part-clause-kept : goal.returns-in_err-reserve_part-clause-kept
returns-in_err-reserve_part-clause-kept c =
    looks_more
    c.loop-at.at c.args.parts.now.items c.loop-at.parts.items c.reserve_part.new.parts.items c.loop-at.invariant.looks
    c.reserve_part.ensures.kept

pub loop-at-preserved : goal.loop-at-preserved
loop-at-preserved c =
    let others = c.deref-other-items.result.now in
    let there =
    slice_get_read others (length others) c.loop-at.at c.other-item.result refl c.loop-at-test.true c.other-item.is in
    part_room_more c.loop-at.at c.args.others.now.items c.args.parts.now.items c.loop-at.parts.items
    c.reserve_part.new.parts.items c.other-item.result (ap (λ l. slice_get l c.loop-at.at)
    (sym c.deref-other-items.ensures.value) ∙ there) c.loop-at.invariant c.in_ok-reserve_part.ensures.kept
    c.in_ok-reserve_part.ensures.ok

pub returns-clause-ok : goal.returns-clause-ok
returns-clause-ok c =
    all_part_room c.loop-at.at c.args.others.now.items c.args.parts.now.items c.loop-at.parts.items c.requires.as_many
    (omega (arith, ap length c.deref-other-items.ensures.value, c.loop-at-test.false)) c.loop-at.invariant

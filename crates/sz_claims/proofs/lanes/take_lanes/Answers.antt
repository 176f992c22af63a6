use Rattle.std.proofs.Common.{◌≡◌, ◌<◌, length, ap, sym, ◌∙◌, arith}
use Rattle.std.specs.Mem.Slots.{slots_items, slots_filled, slots_len, slots_counts}
use Rattle.std.specs.Vec.{vec_len, vec_capacity}
use lib.ListN.{get_elem?}
use mathlib.Core.Option.{some}
use Rattle.sz_claims.proofs.TakingLemmas.{one_taken, no_gap}
use Rattle.sz_claims.proofs.lanes.take_lanes.Goals.{in-Some, in_default}
use Rattle.sz_claims.proofs.lanes.take_lanes.Goals as goal

-- the slot of a lane that is home is full
pub loop-i-preserved : goal.loop-i-preserved
loop-i-preserved g c =
    let h = c.loop-i.invariant in
    let t = c.take.ensures.others in
    let found : get_elem? (slots_items c.args.closed.now.slots) c.loop-i.i ≡ some c.take.result =
    ap (λ l. get_elem? l c.loop-i.i) (sym h.1) ∙ c.take.ensures.value in
    let many = c.slot_count-i-end.ensures in
    let test = c.loop-i-test.true in
    let low : c.loop-i.i < slots_len c.args.closed.now.slots = omega arith in
    let long : length (slots_filled c.loop-i.closed.slots) ≡ slots_len c.args.closed.now.slots = sym (slots_counts c.loop-i.closed.slots).1 ∙ h.2 in
    elim c.match-take.branch [
      | in-Some w ↦ (
        t.3 ∙ h.0,
        t.0 ∙ h.1,
        t.2 ∙ h.2,
        one_taken c.loop-i.i _ _ _ _ _ _ w.in-Some.lane _ _ _ _ h.3 low long (found ∙ ap some w.in-Some.is) t.1
            (ap (λ v. v.items) w.lanes-is ∙ w.push_reserved.ensures.items) (ap vec_len w.lanes-is ∙ w.push_reserved.ensures.len)
            (ap vec_capacity w.lanes-is ∙ w.push_reserved.ensures.capacity),
      )
      | in_default w ↦ no_gap _ c.requires.home.0 c.loop-i.i c.requires.home.1 (found ∙ ap some w.in_default.is)
    ]

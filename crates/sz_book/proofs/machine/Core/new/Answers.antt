use Rattle.std.proofs.Common.{◌∙◌, ℕ, [], replicate, ap}
use Rattle.sz_book.proofs.RoomLemmas.{kept_open, seen_open}
use Rattle.sz_book.proofs.machine.Core.new.Goals as goal

pub invariant_of-result : goal.invariant_of-result
invariant_of-result c =
    let n = c.shards-shards.ensures.value in
    let lists = c.in_ok-empty_lists.ensures.value
    ∙ ap (λ (m : ℕ). replicate c.args.lanes (record { room = m; shards = [] })) n in
    rw (
      c.in_ok-copied.ensures.value,
      c.in_ok-zeros.ensures.value,
      c.in_ok-zeros-2.ensures.value,
      c.in_ok-zeros-3.ensures.value,
      c.in_ok-zeros-4.ensures.value,
      c.in_ok-zeros-5.ensures.value,
      n,
    )
    (kept_open c.args.plan.now c.args.lanes c.in_ok-empty_lists.field-0.items c.shards-shards.ensures.kept lists)

pub returns : goal.returns
returns c =
    let n = c.shards-shards.ensures.value in
    let lists = c.in_ok-empty_lists.ensures.value
    ∙ ap (λ (m : ℕ). replicate c.args.lanes (record { room = m; shards = [] })) n in
    record {
      value = rw (
        c.in_ok-copied.ensures.value,
        c.in_ok-zeros.ensures.value,
        c.in_ok-zeros-2.ensures.value,
        c.in_ok-zeros-3.ensures.value,
        c.in_ok-zeros-4.ensures.value,
        c.in_ok-zeros-5.ensures.value,
        n,
      )
          (seen_open c.args.plan.now c.args.lanes c.in_ok-empty_lists.field-0.items lists);
    }

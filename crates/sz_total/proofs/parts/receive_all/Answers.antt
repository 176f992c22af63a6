-- Each turn receives what the next part of the other side has.
use Rattle.std.proofs.Common.{◌∙◌, ◌++◌, ◌∷◌, [], length, sym, ap, arith, append_assoc}
use Rattle.std.specs.Vec.Iter.{into_iter_items}
use Rattle.std.proofs.lemmas.List.{length-append}
use Rattle.std.proofs.lemmas.Option.{slice_get_within}
use Rattle.sz_total.proofs.MergingLemmas.{found_after}
use Rattle.sz_total.proofs.RoomLemmas.{received_more, all_received}
use Rattle.sz_total.proofs.parts.receive_all.Goals as goal

pub receive_at-requires : goal.receive_at-requires
receive_at-requires c =
    let l = c.loop-other in
    let all = ap (λ rest. l.yielded ++ rest) (sym c.in-Some.ensures.steps.0) ∙ l.invariant.1 in
    let there = found_after l.yielded c.in-Some.other (into_iter_items c.next.new.self)
    c.args.others.items l.at l.invariant.0 all in
    let less = slice_get_within c.args.others.items l.at c.in-Some.other there in
    record { there = omega (arith, less, c.requires.as_many, l.invariant.3.as_many) }

pub loop-other-preserved : goal.loop-other-preserved
loop-other-preserved c =
    let l = c.loop-other in
    let rest = into_iter_items c.next.new.self in
    let all = ap (λ rest. l.yielded ++ rest) (sym c.in-Some.ensures.steps.0) ∙ l.invariant.1 in
    let there = found_after l.yielded c.in-Some.other rest c.args.others.items l.at l.invariant.0 all in (
      omega (arith, l.invariant.0, length-append l.yielded (c.in-Some.other ∷ [])),
      append_assoc l.yielded (c.in-Some.other ∷ []) rest ∙ all,
      omega (arith, l.invariant.2, ap length c.in-Some.ensures.steps.0, c.in-Some.ensures.steps.1),
      received_more l.at c.args.others.items c.args.parts.now.items l.parts.items c.receive_at.new.parts.items
          c.in-Some.other there l.invariant.3 c.receive_at.ensures.value,
    )

pub returns : goal.returns
returns c =
    let l = c.loop-other in
    record {
      value = all_received l.at c.args.others.items c.args.parts.now.items l.parts.items c.requires.as_many
          (omega (
            arith,
            l.invariant.0,
            ap length l.invariant.1,
            length-append l.yielded (into_iter_items l.other-iterator),
            l.invariant.2,
            c.in-None.ensures.steps.0,
          ))
          l.invariant.3;
    }

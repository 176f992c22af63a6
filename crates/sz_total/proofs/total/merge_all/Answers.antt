-- Each turn merges the next table of the other side.
use Rattle.std.proofs.Common.{◌∙◌, ◌++◌, ◌∷◌, [], length, sym, ap, arith, append_assoc}
use Rattle.std.specs.Vec.Iter.{into_iter_items}
use Rattle.std.proofs.lemmas.List.{length-append}
use Rattle.sz_total.proofs.MergingLemmas.{found_after, may_merge, merged_more, all_merged}
use Rattle.sz_total.proofs.total.merge_all.Goals as goal

pub merge_at-requires : goal.merge_at-requires
merge_at-requires g c =
    let l = c.loop-other in
    let all = ap (λ rest. l.yielded ++ rest) (sym c.in-Some.ensures.steps.0) ∙ l.invariant.1 in
    let there = found_after l.yielded c.in-Some.other (into_iter_items c.next.new.self)
    c.args.others.items l.at l.invariant.0 all in
    record {
      hands = c.requires.hands;
      may = may_merge l.at c.in-Some.other c.args.others.items c.args.states.now.items l.states.items there
          c.requires.matched c.requires.few c.requires.room l.invariant.3;
    }

pub loop-other-preserved : goal.loop-other-preserved
loop-other-preserved g c =
    let l = c.loop-other in
    let rest = into_iter_items c.next.new.self in
    let all = ap (λ rest. l.yielded ++ rest) (sym c.in-Some.ensures.steps.0) ∙ l.invariant.1 in
    let there = found_after l.yielded c.in-Some.other rest c.args.others.items l.at l.invariant.0 all in (
      omega (arith, l.invariant.0, length-append l.yielded (c.in-Some.other ∷ [])),
      append_assoc l.yielded (c.in-Some.other ∷ []) rest ∙ all,
      omega (arith, l.invariant.2, ap length c.in-Some.ensures.steps.0, c.in-Some.ensures.steps.1),
      merged_more l.at c.in-Some.other c.args.others.items c.args.states.now.items l.states.items
          c.merge_at.new.states.items there l.invariant.3 c.merge_at.ensures.value,
    )

pub returns : goal.returns
returns g c =
    let l = c.loop-other in
    record {
      value = all_merged l.at c.args.others.items c.args.states.now.items l.states.items
          (omega (
            arith,
            l.invariant.0,
            ap length l.invariant.1,
            length-append l.yielded (into_iter_items l.other-iterator),
            l.invariant.2,
            c.in-None.ensures.steps.0,
          ))
          l.invariant.3;
    }

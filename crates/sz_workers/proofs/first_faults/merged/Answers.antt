use Rattle.std.proofs.Common.{◌≡◌, ℕ, suc, ◌+◌, ◌-◌, ◌++◌, ◌∷◌, [], ap, sym, ◌∙◌, arith, append_assoc}
use Rattle.std.specs.Prelude.{option_map}
use Rattle.sz_workers.specs.FirstFaults.{merged}
use Rattle.sz_workers.proofs.FaultLemmas.{merged_next}
use Rattle.sz_workers.proofs.first_faults.merged.Goals as goal

-- one more is there
pub loop-taken-preserved : goal.loop-taken-preserved
loop-taken-preserved c =
    let l = c.loop-taken in
    let left : ℕ = c.args.most - (l.taken + 1) in
    let one : c.args.most - l.taken ≡ suc left = omega (arith, c.loop-taken-test.true) in
    let is = sym c.next_of.ensures.value ∙ ap (option_map _) c.in-Some.is in
    ap (λ fs. fs ++ merged left c.in-Some.our_rest.now c.in-Some.their_rest.now) c.in_ok-push.ensures.ok
    ∙ append_assoc l.faults (c.in-Some.next ∷ []) (merged left c.in-Some.our_rest.now c.in-Some.their_rest.now)
    ∙ ap (λ fs. l.faults ++ fs)
    (sym (merged_next left l.ours.now l.theirs.now c.in-Some.our_rest.now c.in-Some.their_rest.now c.in-Some.next is))
    ∙ ap (λ n. l.faults ++ merged n l.ours.now l.theirs.now) (sym one) ∙ l.invariant

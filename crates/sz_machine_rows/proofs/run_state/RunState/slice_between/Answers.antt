-- The bounds are on top, and below them is what they are bounds of.
use Rattle.std.proofs.Common.{◌≡◌, ◌∙◌, ◌∷◌, Some, drop, sym, ap, w64}
use Rattle.std.proofs.lemmas.Result.{IfOk-weaker}
use Rattle.std.proofs.lemmas.Int.{to_z-of_z}
use Rattle.sz_value.specs.Data.{int}
use Rattle.sz_world_rules.specs.Operations.{slice_of}
use Rattle.sz_world_rules.specs.Ticks.{result_weight}
use Rattle.sz_machine_rows.proofs.run_state.RunState.slice_between.Goals as goal

pub returns : goal.returns
returns c =
    let all = c.args.self.now.operands in
    let from = c.args.from in
    let to = c.args.to in
    let x = c.pop-x.result in
    let rest = c.pop-x.new.self in
    let one : drop 1 all ≡ Some (int from) ∷ drop 2 all = ap (drop 1) c.requires.ints in
    let below : drop 2 all ≡ x ∷ rest =
    sym (ap (drop 1) one) ∙ ap (drop 1) (sym c.drop_one.ensures.value) ∙ sym c.drop_one-2.ensures.value
    ∙ c.pop-x.ensures.value in
    let pops : all ≡ Some (int to) ∷ Some (int from) ∷ x ∷ rest =
    c.requires.ints ∙ ap (λ l. Some (int to) ∷ Some (int from) ∷ l) below in
    let first = to_z-of_z w64 from c.ranges.from in
    let last = to_z-of_z w64 to c.ranges.to in
    let made : c.in_ok-made.made ≡ slice_of x (Some (int from)) (Some (int to)) =
    c.in_ok-made.ensures.value ∙ (λ i. slice_of x (Some (int (first i))) (Some (int (last i)))) in
    let weight : c.result_weight-weight.result ≡ result_weight (slice_of x (Some (int from)) (Some (int to))) =
    c.result_weight-weight.ensures.value ∙ ap result_weight made in
    record {
      value = λ code. IfOk-weaker c.finish.result _ _
          (λ paid does place a. rw pops (rw made at (rw weight at (does place a)))) c.finish.ensures.value;
    }

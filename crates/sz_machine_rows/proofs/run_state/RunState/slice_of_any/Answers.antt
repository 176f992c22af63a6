-- Three operands are popped.
use Rattle.std.proofs.Common.{◌≡◌, ◌∙◌, ◌∷◌, ap}
use Rattle.std.proofs.lemmas.Result.{IfOk-weaker}
use Rattle.sz_world_rules.specs.Operations.{slice_of}
use Rattle.sz_world_rules.specs.Ticks.{result_weight}
use Rattle.sz_machine_rows.proofs.run_state.RunState.slice_of_any.Goals as goal

pub returns : goal.returns
returns c =
    let pops : c.args.self.now.operands ≡ c.pop-j.result ∷ c.pop-i.result ∷ c.pop-x.result ∷ c.pop-x.new.self =
    c.pop-j.ensures.value ∙ ap (λ l. c.pop-j.result ∷ l) c.pop-i.ensures.value
    ∙ ap (λ l. c.pop-j.result ∷ c.pop-i.result ∷ l) c.pop-x.ensures.value in
    let made : c.in_ok-made.made ≡ slice_of c.pop-x.result c.pop-i.result c.pop-j.result = c.in_ok-made.ensures.value in
    let weight : c.result_weight-weight.result ≡ result_weight (slice_of c.pop-x.result c.pop-i.result c.pop-j.result) =
    c.result_weight-weight.ensures.value ∙ ap result_weight made in
    record {
      value = λ code. IfOk-weaker c.finish.result _ _
          (λ next does place a. rw pops (rw made at (rw weight at (does place a)))) c.finish.ensures.value;
    }

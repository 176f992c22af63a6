-- The weight of both is taken, and then they are emitted.
use Rattle.std.proofs.Common.{rules, ◌≡◌, ◌∙◌, true, false, None, [], ◌∷◌, ap, subst}
use Rattle.sz_world_rules.specs.Slots.{all_defined}
use Rattle.sz_machine_rows.specs.Acting.{Paid, world_of, state_of, paid_world}
use Rattle.sz_machine_rows.specs.Emitting.{parts_weight}
use Rattle.sz_machine_rows.proofs.EmitLemmas.{one_unpaid, one_done}
use Rattle.sz_machine_rows.proofs.run_state.RunState.emit_under_one.Goals as goal

pub returns-then-not-pay_two : goal.returns-then-not-pay_two
returns-then-not-pay_two c =
    let unpaid : c.pay_two.result ≡ false = search rules in
    record {
      value = λ a. one_unpaid c.args.code.now c.args.table c.args.place (state_of c.args.self.now a)
          c.pop-value.result c.pop-index.result c.pop-value.new.self
          c.pop-index.new.self c.pop-value.ensures.value c.pop-index.ensures.value
          (c.pay_two.ensures.value.spent ∙ ap (λ p. paid_world p (world_of c.pay_two.new.self)) unpaid);
    }

pub returns : goal.returns
returns c =
    let paid : c.pay_two.result ≡ true = search rules in
    record {
      value = one_done c.args.code.now c.args.table c.args.place c.args.self.now c.pay_two.new.self
          c.emit_two.new.self c.pop-value.result c.pop-index.result
          c.pop-value.new.self c.pop-index.new.self c.pop-value.ensures.value c.pop-index.ensures.value
          (subst (λ p. Paid (parts_weight (all_defined (c.pop-index.result ∷ [])) c.pop-value.result None)
          (record c.args.self.now { operands = c.pop-index.new.self }) p
          c.pay_two.new.self) paid c.pay_two.ensures.value)
          c.in_ok-emit_two.ensures.value;
    }

-- The weight of the value is taken, and then it is emitted.
use Rattle.std.proofs.Common.{rules, ◌≡◌, true, subst}
use Rattle.sz_world_rules.specs.Ticks.{result_weight}
use Rattle.sz_machine_rows.specs.Acting.{Paid}
use Rattle.sz_machine_rows.proofs.EmitLemmas.{alone_done}
use Rattle.sz_machine_rows.proofs.run_state.RunState.emit_alone.Goals as goal

pub returns : goal.returns
returns c =
    let paid : c.pay.result ≡ true = search rules in
    let weighs : c.result_weight.result ≡ result_weight c.pop-value.result = c.result_weight.ensures.value in
    record {
      value = alone_done c.args.code.now c.args.table c.args.place c.args.self.now c.pay.new.self c.emit_paid.new.self
          c.pop-value.result c.pop-value.new.self c.pop-value.ensures.value
          (subst (λ n. Paid n (record c.args.self.now { operands = c.pop-value.new.self }) true c.pay.new.self) weighs
          (subst (λ p. Paid c.result_weight.result (record c.args.self.now { operands = c.pop-value.new.self }) p
          c.pay.new.self) paid c.pay.ensures.value)) c.in_ok-emit_paid.ensures.value;
    }

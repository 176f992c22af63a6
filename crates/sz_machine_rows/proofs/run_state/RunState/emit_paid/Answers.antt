-- A value that isn't there is not emitted.
use Rattle.std.proofs.Common.{rules, ◌≡◌, None, Some, [], OnOk, sym, subst}
use Rattle.sz_machine_rows.specs.Acting.{DoesAt}
use Rattle.sz_machine_rows.specs.Emitting.{emits_made}
use Rattle.sz_machine_rows.specs.declared.run_state.Onward.TheVariants.{On}
use Rattle.sz_machine_rows.proofs.EmitLemmas.{lacks_value}
use Rattle.sz_machine_rows.proofs.run_state.RunState.emit_paid.Goals as goal

pub returns-in-None : goal.returns-in-None
returns-in-None c =
    let none : c.args.value ≡ None = search rules in
    record {
      value = subst (λ m. OnOk c.emit_made.result
          (DoesAt c.args.place (emits_made c.args.code.now.ignore m) c.args.self.now On c.emit_made.new.self))
          (sym (lacks_value c.args.table (Some []) c.args.value none)) c.emit_made.ensures.value;
    }

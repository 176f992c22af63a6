-- Without the value nothing is emitted; with it the index decides.
use Rattle.std.proofs.Common.{rules, ◌≡◌, None, Some, [], ◌∷◌, OnOk, sym, subst}
use Rattle.sz_world_rules.specs.Slots.{all_defined}
use Rattle.sz_value.specs.Seen.{seen}
use Rattle.sz_world_rules.specs.Emits.{emit_by_weight}
use Rattle.sz_machine_rows.specs.Acting.{DoesAt}
use Rattle.sz_machine_rows.specs.Emitting.{emits_made}
use Rattle.sz_machine_rows.specs.declared.run_state.Onward.TheVariants.{On}
use Rattle.sz_machine_rows.proofs.EmitLemmas.{lacks_value}
use Rattle.sz_machine_rows.proofs.run_state.RunState.emit_two.Goals as goal

pub returns-in-None : goal.returns-in-None
returns-in-None c =
    let none : c.args.value ≡ None = search rules in
    record {
      value = subst (λ m. OnOk c.emit_made.result
          (DoesAt c.args.place (emits_made c.args.code.now.ignore m) c.args.self.now On c.emit_made.new.self))
          (sym (lacks_value c.args.table (all_defined (c.args.index ∷ [])) c.args.value none))
          c.emit_made.ensures.value;
    }

pub returns-in-Some : goal.returns-in-Some
returns-in-Some c =
    let there : c.args.value ≡ Some (seen c.in-Some.value) = search rules in
    record {
      value = subst (λ v. OnOk c.emit_under.result (DoesAt c.args.place
          (emits_made c.args.code.now.ignore (emit_by_weight c.args.table (all_defined (c.args.index ∷ [])) v None))
          c.args.self.now On c.emit_under.new.self)) (sym there) c.emit_under.ensures.value;
    }

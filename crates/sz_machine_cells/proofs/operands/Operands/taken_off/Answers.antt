-- One operand more is taken off.
use Rattle.std.proofs.Common.{rules, ◌≡◌, ◌∙◌, ◌∷◌, map, None, Some, sym, ap}
use Rattle.sz_value.specs.Seen.{seen}
use Rattle.sz_machine_cells.proofs.ListLemmas.{one_off, value_off, none_off}
use Rattle.sz_machine_cells.proofs.operands.Operands.taken_off.Goals as goal

pub loop-preserved-in_default : goal.loop-preserved-in_default
loop-preserved-in_default c =
    let none : c.pop-cell.result ≡ None = search rules in
    let e = sym c.loop.invariant.rest ∙ c.pop-cell.ensures.value ∙ ap (λ x. x ∷ c.pop-cell.new.self) none in
    record {
      rest = sym (one_off c.args.self.now c.loop.counter None c.pop-cell.new.self e).0;
      values =
          none_off c.loop.values.items c.args.self.now c.loop.counter c.pop-cell.new.self c.loop.invariant.values e;
    }

pub loop-preserved : goal.loop-preserved
loop-preserved c =
    let v = c.in-Some.value in
    let some : c.pop-cell.result ≡ Some (seen v) = search rules in
    let e = sym c.loop.invariant.rest ∙ c.pop-cell.ensures.value ∙ ap (λ x. x ∷ c.pop-cell.new.self) some in
    let made =
    value_off c.loop.values.items c.args.self.now c.loop.counter c.pop-cell.new.self c.loop.invariant.values v e in
    record {
      rest = sym (one_off c.args.self.now c.loop.counter (Some (seen v)) c.pop-cell.new.self e).0;
      values = ap (λ vs. map seen vs) c.in_ok-push.ensures.items ∙ made;
    }

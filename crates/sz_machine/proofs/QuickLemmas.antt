-- Rows that are done in line, or else not at all.
use Rattle.std.proofs.Common.{◌≡◌, ℕ, Bool, true, false, IfSome, IfNone}
use Rattle.sz_types.specs.declared.place.Place.{Place}
use Rattle.sz_instr.specs.States.{State, After}
use Rattle.sz_machine_rows.specs.declared.run_state.RunState.{RunState}
use Rattle.sz_world_rules.specs.Slots.{Slot}
use Rattle.sz_machine_rows.specs.Acting.{DoesIf, DoesWhere}
use Rattle.sz_machine.specs.AtLines.{IsAt, on_if}

module _ (row : Place → State → After) (old new : RunState) where
  -- where it goes on, the row was done
  pub row_done : (done : Bool) (at : ℕ) (input : Slot) → DoesIf done row old new
      → IfSome (on_if done) (λ next. (place : Place) → DoesWhere place (IsAt at input) row old next new)
  row_done true at input does = λ place a is. does place a
  row_done false at input same = tt

  -- else nothing was
  pub row_left : (done : Bool) → DoesIf done row old new → IfNone (on_if done) (new ≡ old)
  row_left true does = tt
  row_left false same = same

-- Runs in place: their beginnings, their ends, and what is known on the way.
use Rattle.std.specs.Prelude.{◌≡◌, List, Option, Some, None, slice_get}
use Rattle.sz_instr.specs.declared.code.Code.{Code}
use Rattle.sz_instr.specs.declared.line.Line.{Line}
use Rattle.sz_world_rules.specs.World.{World}
use Rattle.sz_world_rules.specs.Slots.{Slot}
use Rattle.sz_instr.specs.States.{State, After, IsOver, Halts, Faults}
use Rattle.sz_instr.specs.Runs.{ComesTo, does}
use Rattle.sz_machine.specs.declared.ends.Fault.{Fault}
use Rattle.sz_machine_rows.specs.declared.run_state.RunState.{RunState}
use Rattle.sz_machine_rows.specs.declared.run_state.Onward.{Onward}
use Rattle.sz_machine_rows.specs.Acting.{Around, state_of, leads}
use Rattle.sz_machine.specs.Ends.{seen_fault}

-- from the state the run comes to its end
pub record Ends (code : Code) (s : State) : Type 0 where
  pub end : After
  pub over : IsOver end
  pub comes : ComesTo code s end

-- each end that the run comes to from the first state, it comes to from the second
abbrev pub IsOnTheWay : Code → State → State → Type 0
IsOnTheWay code start s = (x : After) → IsOver x → ComesTo code start x → ComesTo code s x

-- of each end that the run comes to from the state, this holds
abbrev pub OfEnds : Code → State → (After → Type 0) → Type 0
OfEnds code s P = (x : After) → IsOver x → ComesTo code s x → P x

-- the line at the place does this
abbrev pub LineDoes : Code → Around → Around → RunState → Onward → RunState → Type 0
LineDoes code a b old next new =
    (line : Line) → slice_get code.lines a.at ≡ Some line
    → does code line (state_of old a) ≡ leads next line.place b new

-- a static's run ends so: in this fault, or with this world and these statics
abbrev pub EndsSo : Option Fault → World → List Slot → After → Type 0
EndsSo None w statics x = Halts w statics ≡ x
EndsSo (Some fault) w statics x = Faults (seen_fault fault) ≡ x

-- The states of the machine, and what one instruction leads to.
use Rattle.std.specs.Prelude.{ℕ, suc, List, [], ◌∷◌, reverse, take}
use Rattle.sz_types.specs.declared.place.Place.{Place}
use Rattle.sz_value.specs.Data.{Datum}
use Rattle.sz_instr.specs.declared.routine.Routine.{Routine}
use Rattle.sz_world_rules.specs.World.{World, Fault}
use Rattle.sz_world_rules.specs.Slots.{Slot, undefined_slots}

-- a routine that waits for one that it called: its locals, the place where it goes on, and its candidate lists
pub record Caller : Type 0 where
  pub locals : List Slot
  pub back : ℕ
  pub lists : List (List Datum)

-- a state: the place of the next line; the operands, the topmost first; the locals of the routine that runs, and its
-- candidate lists, the innermost first; the routines that wait, the innermost first; the statics, the record, and the
-- world
pub record State : Type 0 where
  pub at : ℕ
  pub stack : List Slot
  pub locals : List Slot
  pub lists : List (List Datum)
  pub callers : List Caller
  pub statics : List Slot
  pub input : Slot
  pub world : World

-- what one instruction leads to, or a run of them: another state, the end of the run, a fault, or nothing at all
pub data After : Type 0 where
  Goes : (state : State) → After
  Halts : (world : World) (statics : List Slot) → After
  Faults : (fault : Fault) → After
  Stuck : After

-- a run is over: nothing goes on from there
abbrev pub IsOver : After → Type 0
IsOver (Halts w statics) = Unit {0}
IsOver (Faults fault) = Unit {0}
IsOver _ = ⊥

-- the state in which a routine is entered that nothing called
abbrev pub entered : Routine → List Slot → Slot → World → State
entered routine statics input world = record {
  at = routine.entry;
  stack = [];
  locals = undefined_slots routine.locals;
  lists = [];
  callers = [];
  statics = statics;
  input = input;
  world = world;
}

-- the run goes to a place with these operands
abbrev pub goes_to : State → ℕ → List Slot → After
goes_to s at stack = Goes (record s { at = at; stack = stack })

-- the run goes on after the line with these operands
abbrev pub goes_on : State → List Slot → After
goes_on s stack = goes_to s (suc s.at) stack

-- the run ends in a fault
abbrev pub faults : ℕ → Place → After
faults kind place = Faults (record { kind = kind; place = place })

-- what is done with the topmost operand and those below it
abbrev pub on_one : List Slot → (Slot → List Slot → After) → After
on_one [] go = Stuck
on_one (x ∷ stack) go = go x stack

-- what is done with the two topmost operands, the upper one last, and those below them
abbrev pub on_two : List Slot → (Slot → Slot → List Slot → After) → After
on_two (y ∷ x ∷ stack) go = go x y stack
on_two _ go = Stuck

-- what is done with the three topmost operands, the upmost one last, and those below them
abbrev pub on_three : List Slot → (Slot → Slot → Slot → List Slot → After) → After
on_three (z ∷ y ∷ x ∷ stack) go = go x y z stack
on_three _ go = Stuck

-- so many topmost operands, the upmost one last
abbrev pub popped : ℕ → List Slot → List Slot
popped count stack = reverse (take count stack)

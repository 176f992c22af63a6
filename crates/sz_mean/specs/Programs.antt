-- What a program means: its calls, its statics, and what it does for one record and for all records.
use Rattle.std.specs.Prelude.{ℕ, zero, suc, List, [], ◌∷◌, length, slice_get, slice_set, Option, Some, None}
use Rattle.sz_value.specs.Data.{Datum, bytes}
use Rattle.sz_tabs.specs.Data.{EmitDatum}
use Rattle.sz_core.specs.Statements.{Stms, stms_of}
use Rattle.sz_core.specs.Programs.{Function, Static, Core, functions_of, statics_of, statements_of}
use Rattle.sz_world_rules.specs.World.{new_world, calls_too_deep, most_open_calls, Given, Gives, Stops, Doing, ◌>>=◌, ◌>>◌, give, pay, fails}
use Rattle.sz_world_rules.specs.World.{Outcome, Done, Faulted}
use Rattle.sz_world_rules.specs.Slots.{Slot, undefined_slots, fresh}
use Rattle.sz_mean.specs.Marked.{Marked, counting_table}
use Rattle.sz_mean.specs.Expressions.{Calls, Setting, eval}
use Rattle.sz_mean.specs.Endings.{Ending, Normal, Breaks, Continues, Returns}
use Rattle.sz_mean.specs.Statements.{exec_all}

-- what a call gives: what its function returned, and undefined where the function came to its end
abbrev pub returned : Ending → Slot
returned (Normal locals) = None
returned (Breaks locals) = None
returned (Continues locals) = None
returned (Returns result) = result

-- the functions of the program, and the table that counts the lines that are passed over, if they are
module _ (functions : List Function) (counting : Option ℕ) where
  -- what a function sees: no record
  abbrev pub function_setting : Calls → List Slot → Setting
  function_setting calls statics = record { calls = calls; statics = statics; input = None; counting = counting }

  -- a function's statements run with its arguments as its first variables
  abbrev pub run_function : Option Function → Calls → List Slot → List Datum → Doing Slot
  run_function None calls statics arguments = give None
  run_function (Some f) calls statics arguments = do
    ending ← exec_all (function_setting calls statics) f.body (fresh (length f.locals) arguments)
    give (returned ending)

  -- what calls do where so many more can be open
  abbrev pub calls_at : List Slot → ℕ → Calls
  calls_at statics zero f place arguments = fails calls_too_deep place
  calls_at statics (suc room) f place arguments =
      run_function (slice_get functions f) (calls_at statics room) statics arguments

  -- what statements and statics see while no call is open
  abbrev pub outer_setting : List Slot → Slot → Setting
  outer_setting statics input = record {
    calls = calls_at statics most_open_calls;
    statics = statics;
    input = input;
    counting = counting;
  }

  -- the statics from this number on get their values in order; each sees those before it
  abbrev pub initialised : List Static → ℕ → List Slot → Doing (List Slot)
  initialised [] n slots = give slots
  initialised (s ∷ rest) n slots = do
    x ← eval (outer_setting slots None) [] s.value
    pay 1 s.place
    initialised rest (suc n) (slice_set slots n x)

-- the slots, or the fault that the run ended in
abbrev pub slots_given : Given (List Slot) → Outcome (List Slot)
slots_given (Gives slots w) = Done slots
slots_given (Stops fault) = Faulted fault

-- the emits of a run, or the fault that it ended in
abbrev pub emits_given : Given Ending → Outcome (List EmitDatum)
emits_given (Gives ending w) = Done w.emits
emits_given (Stops fault) = Faulted fault

-- the slots of a program's statics, computed with one budget, or their fault. What is passed over meanwhile isn't
-- counted.
abbrev pub statics : Marked → ℕ → Outcome (List Slot)
statics program budget =
    let all = statics_of program.core.items in
    slots_given (initialised (functions_of program.core.items) (counting_table program) all 0
    (undefined_slots (length all)) (new_world budget))

-- the statements that a program runs for each record
abbrev pub body_of : Core → Stms
body_of core = stms_of (statements_of core.items)

-- what a program does with a record: its statements run on the record's bytes, with fresh variables and a new budget
abbrev pub run_record : Marked → List Slot → ℕ → List ℕ → Given Ending
run_record program slots budget input =
    exec_all (outer_setting (functions_of program.core.items) (counting_table program) slots (Some (bytes input)))
    (body_of program.core) (undefined_slots (length program.core.locals)) (new_world budget)

-- what a program means for a record, with these statics: its emits in order, or its fault
abbrev pub mean : Marked → List Slot → ℕ → List ℕ → Outcome (List EmitDatum)
mean program slots budget input = emits_given (run_record program slots budget input)

-- How many lines are left of a run that is known to end.
use Rattle.std.specs.Prelude.{◌≡◌, ℕ, zero, suc, List, [], ◌∷◌, length, slice_get, Bool, true, false, Option, Some, None}
use Rattle.sz_instr.specs.declared.code.Code.{Code}
use Rattle.sz_instr.specs.declared.line.Line.{Line}
use Rattle.sz_instr.specs.declared.routine.Routine.{Routine}
use Rattle.sz_world_rules.specs.World.{World, new_world, Outcome}
use Rattle.sz_world_rules.specs.Slots.{Slot, undefined_slots}
use Rattle.sz_instr.specs.States.{State, After, Goes, Halts, Stuck, entered}
use Rattle.sz_instr.specs.Runs.{does, record_start, StaticsRunTo, RoutinesRunTo}
use Rattle.sz_machine.specs.Leasts.{Least, least_prop}
use Rattle.sz_machine.specs.CodeRuns.{IsOnTheWay}

-- what a line that is there leads to in a state
abbrev pub led_by : Code → Option Line → State → After
led_by code None s = Stuck
led_by code (Some line) s = does code line s

-- what the line at a state's place leads to
abbrev pub line_leads : Code → State → After
line_leads code s = led_by code (slice_get code.lines s.at) s

-- what so many lines lead to, or fewer where these led to an end
abbrev pub after_lines : Code → ℕ → After → After
after_lines code zero x = x
after_lines code (suc n) (Goes s) = after_lines code n (line_leads code s)
after_lines code (suc n) x = x

-- nothing goes on from there
abbrev pub is_over : After → Bool
is_over (Goes s) = false
is_over _ = true

-- the run is at its end after at most so many lines
abbrev pub ends_within : Code → ℕ → After → Bool
ends_within code n x = is_over (after_lines code n x)

-- how many lines lead to the end, of at most so many
abbrev pub lines_left : Code → ℕ → After → ℕ
lines_left code zero x = 0
lines_left code (suc n) (Goes s) = suc (lines_left code n (line_leads code s))
lines_left code (suc n) x = 0

-- whether a run is over, and where it halts also what follows
abbrev pub is_over_and : After → (World → List Slot → Bool) → Bool
is_over_and (Goes s) next = false
is_over_and (Halts w statics) next = next w statics
is_over_and _ next = true

-- each run of these routines, one after the other from these statics, is at its end after at most so many lines
abbrev pub routines_end_within : Code → ℕ → List Routine → World → List Slot → Bool
routines_end_within code n [] w statics = true
routines_end_within code n (routine ∷ rest) w statics =
    is_over_and (after_lines code n (Goes (entered routine statics None w)))
    (λ next slots. routines_end_within code n rest next slots)

-- the least number of lines after which the run for a record is at its end
abbrev pub RecordLines : Code → List ℕ → List Slot → ℕ → Type 0
RecordLines code input statics budget = Least (λ n. ends_within code n (Goes (record_start code input statics budget)))

pub record_lines_prop : (code : Code) (input : List ℕ) (statics : List Slot) (budget : ℕ)
    → IsProp (RecordLines code input statics budget)
record_lines_prop code input statics budget =
    least_prop (λ n. ends_within code n (Goes (record_start code input statics budget)))

-- the least number of lines after which each run of a static is at its end
abbrev pub StaticsLines : Code → ℕ → Type 0
StaticsLines code budget =
    Least (λ n. routines_end_within code n code.statics (new_world budget) (undefined_slots (length code.statics)))

pub statics_lines_prop : (code : Code) (budget : ℕ) → IsProp (StaticsLines code budget)
statics_lines_prop code budget =
    least_prop (λ n. routines_end_within code n code.statics (new_world budget) (undefined_slots (length code.statics)))

-- the run is on its way from the first state, and at its end after at most so many lines
pub record IsOnTheWayWithin (code : Code) (n : ℕ) (start s : State) : Type 0 where
  pub way : IsOnTheWay code start s
  pub within : ends_within code n (Goes s) ≡ true

-- however the run of all statics ends, the run of these routines does, and each of them is at its
-- end after at most so many lines
pub record AreOnTheWayWithin (code : Code) (budget n : ℕ) (routines : List Routine) (w : World)
    (statics : List Slot) : Type 0 where
  pub way : (o : Outcome (List Slot)) → StaticsRunTo code budget o → RoutinesRunTo code routines w statics o
  pub within : routines_end_within code n routines w statics ≡ true

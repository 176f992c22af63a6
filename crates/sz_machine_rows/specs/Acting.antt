-- What contracts see of a run in place, and what a line has done to it.
use Rattle.std.specs.Prelude.{◌≡◌, ℕ, suc, List, ◌∷◌, Option, Some, None, Bool, true, false}
use Rattle.sz_types.specs.declared.place.Place.{Place}
use Rattle.sz_instr.specs.declared.instr.Instr.{Instr}
use Rattle.sz_instr.specs.declared.code.Code.{Code}
use Rattle.sz_world_rules.specs.World.{World, spend, budget_passed, undefined_used}
use Rattle.sz_world_rules.specs.Slots.{Slot}
use Rattle.sz_instr.specs.States.{State, After, Goes, Halts, faults}
use Rattle.sz_instr.specs.Rows.{act, pass_over}
use Rattle.sz_instr.specs.Runs.{weight_added}
use Rattle.sz_machine_rows.specs.declared.run_state.RunState.{RunState}
use Rattle.sz_machine_rows.specs.declared.run_state.Onward.{Onward}
use Rattle.sz_machine_rows.specs.declared.run_state.Onward.TheVariants.{On, To, End, Fault}

-- what a run in place has around it: the place of the next line, the statics, and the record
pub record Around : Type 0 where
  pub at : ℕ
  pub statics : List Slot
  pub input : Slot

-- the world of a run in place
abbrev pub world_of : RunState → World
world_of h = record { left = h.left; emits = h.emits }

-- the state of the machine that a run in place stands for
abbrev pub state_of : RunState → Around → State
state_of h a = record {
  at = a.at;
  stack = h.operands;
  locals = h.calls.locals;
  lists = h.calls.lists;
  callers = h.calls.callers;
  statics = a.statics;
  input = a.input;
  world = world_of h;
}

-- what follows once ticks were taken, or the fault where they weren't left
abbrev pub when_paid : Place → Option World → (World → After) → After
when_paid place None go = faults budget_passed place
when_paid place (Some w) go = go w

-- what an instruction does, the charge of its line being taken, but not yet the weight of its result
abbrev pub weighs_and_acts : Code → Instr → Place → State → After
weighs_and_acts code instr place s =
    when_paid place (spend (weight_added code instr s.stack) s.world)
    (λ w. act code instr place (record s { world = w }))

-- what a run in place leads to: it goes on after the line or at a place, it ends, or it faults
abbrev pub leads : Onward → Place → Around → RunState → After
leads On place a h = Goes (state_of h (record a { at = suc a.at }))
leads (To at) place a h = Goes (state_of h (record a { at = at }))
leads End place a h = Halts (world_of h) a.statics
leads (Fault kind) place a h = faults kind place

-- whatever is around it, and wherever in the text, the old run in place leads by this to the new one
abbrev pub Does : (Place → State → After) → RunState → Onward → RunState → Type 0
Does row old next new = (place : Place) (a : Around) → row place (state_of old a) ≡ leads next place a new

-- the same of this place of the text
abbrev pub DoesAt : Place → (Place → State → After) → RunState → Onward → RunState → Type 0
DoesAt place row old next new = (a : Around) → row place (state_of old a) ≡ leads next place a new

-- the world, if ticks were taken
abbrev pub paid_world : Bool → World → Option World
paid_world true w = Some w
paid_world false w = None

-- the same from these surroundings to those
abbrev pub DoesFromTo : Place → Around → Around → (Place → State → After) → RunState → Onward → RunState → Type 0
DoesFromTo place a b row old next new = row place (state_of old a) ≡ leads next place b new

-- the same where this holds of what is around it
abbrev pub DoesWhere : Place → (Around → Type 0) → (Place → State → After) → RunState → Onward → RunState → Type 0
DoesWhere place holds row old next new = (a : Around) → holds a → row place (state_of old a) ≡ leads next place a new

-- whatever else was on the operands before, an undefined value that was used at a place of the text leads to a
-- place of the code by the definition
abbrev pub PassesTo : Option ℕ → Place → (Around → ℕ) → RunState → Onward → RunState → Type 0
PassesTo counting place to old next new =
    (before : List Slot) (a : Around) → pass_over counting place (record (state_of old a) { stack = before })
    (to a) old.operands ≡ leads next place a new

-- so many ticks were taken; or they weren't there, and it is of no account how many are left
pub record Paid (ticks : ℕ) (old : RunState) (paid : Bool) (new : RunState) : Type 0 where
  pub spent : spend ticks (world_of old) ≡ paid_world paid (world_of new)
  pub kept : new ≡ record old { left = new.left }

-- a run goes on after a line whose ticks were left
abbrev pub if_paid : Bool → Onward
if_paid true = On
if_paid false = Fault budget_passed

-- a run goes so where the use of an undefined value was passed over
abbrev pub if_passed : Bool → Onward → Onward
if_passed true next = next
if_passed false next = Fault undefined_used

-- the row was done, and the run goes on after the line; or else nothing was done
abbrev pub DoesIf : Bool → (Place → State → After) → RunState → RunState → Type 0
DoesIf true row old new = Does row old On new
DoesIf false row old new = new ≡ old

-- a result is left on the operands, its weight being taken
abbrev pub results : ℕ → Slot → Place → State → After
results weight made place s =
    when_paid place (spend weight s.world) (λ w. Goes (record s { at = suc s.at; stack = made ∷ s.stack; world = w }))

-- What it says of code that it does what statements mean, stated backward: if the run comes to something from what a
-- statement gives, then it comes to it from the state before.
use Rattle.std.specs.Prelude.{◌≡◌, ℕ, zero, suc, ◌+◌, List, [], ◌∷◌, length, Bool, true, false, Option, Some, None, IsSome, drop}
use Rattle.sz_types.specs.Data.{Shape}
use Rattle.sz_value.specs.Data.{Datum}
use Rattle.sz_core.specs.Typing.{Sight}
use Rattle.sz_core.specs.Sound.{Around}
use Rattle.sz_instr.specs.declared.code.Code.{Code}
use Rattle.sz_world_rules.specs.World.{World, Given, Gives, Stops, most_open_calls}
use Rattle.sz_world_rules.specs.Slots.{Slot}
use Rattle.sz_world_rules.specs.Typed.{Fits}
use Rattle.sz_mean.specs.Expressions.{Setting}
use Rattle.sz_mean.specs.Endings.{Ending, Normal, Breaks, Continues, Returns}
use Rattle.sz_instr.specs.States.{Caller, State, After, Halts, Faults}
use Rattle.sz_instr.specs.Rows.{leave_to}
use Rattle.sz_instr.specs.Covering.{HasCaller}
use Rattle.sz_instr.specs.Runs.{ComesTo}
use Rattle.sz_gen_rules.specs.Runs.{Kept, AllKept, NextComes, HaveTypes}
use Rattle.sz_gen_rules.specs.StatementCode.{Exits}

-- what is seen at one place of a routine, with what is there in the whole routine
abbrev pub seeing : Sight → Sight → Sight
seeing g seen = record g { seen = seen.seen; fixed = seen.fixed; may_emit = seen.may_emit }

-- what is asked only inside a loop
abbrev pub IfIn : Bool → Type 0 → Type 0
IfIn true P = P
IfIn false P = Unit {0}

-- so many defined slots lie on top of the stack
abbrev pub AreFlags : ℕ → List Slot → Type 0
AreFlags zero stack = Unit {0}
AreFlags (suc n) [] = ⊥
AreFlags (suc n) (None ∷ stack) = ⊥
AreFlags (suc n) (Some d ∷ stack) = AreFlags n stack

-- where statements can return, a routine waits
abbrev pub MayReturn : Option Shape → List Caller → Type 0
MayReturn None callers = Unit {0}
MayReturn (Some t) callers = HasCaller callers

-- the run comes to x from what a statement that ends its routine gives: the function is left with a result of its
-- type, from wherever the run is in it, or the record is at its end
abbrev pub AfterReturn : Code → Option Shape → ℕ → State → After → Slot → World → Type 0
AfterReturn code None flags s x result w = Halts w s.statics ≡ x
AfterReturn code (Some t) flags s x result w = Kept s.world t result w
    → (at : ℕ) (stack locals : List Slot) (lists : List (List Datum))
    → NextComes code (leave_to s.callers result
    (record s { at = at; stack = stack; locals = locals; lists = lists; world = w }) (drop flags s.stack)) x

-- the run comes to x from how a statement ends, where the code goes on at a line or at the exits around it, and
-- locals have these types
abbrev pub AfterEnding : Code → Around → List Shape → Exits → State → ℕ → After → Ending → World → Type 0
AfterEnding code a types out s end x (Normal locals) w =
    AllKept s.world types locals w → ComesTo code (record s { at = end; locals = locals; world = w }) x
AfterEnding code a types out s end x (Breaks locals) w =
    IfIn a.loop
    (AllKept s.world types locals w → ComesTo code (record s { at = out.on_break; locals = locals; world = w }) x)
AfterEnding code a types out s end x (Continues locals) w =
    IfIn a.loop
    (AllKept s.world types locals w → ComesTo code (record s { at = out.on_continue; locals = locals; world = w }) x)
AfterEnding code a types out s end x (Returns result) w = AfterReturn code a.result out.flags s x result w

-- the same from what a statement gives, which may be a fault
abbrev pub AfterExec : Code → Around → List Shape → Exits → State → ℕ → After → Given Ending → Type 0
AfterExec code a types out s end x (Gives ending w) = AfterEnding code a types out s end x ending w
AfterExec code a types out s end x (Stops fault) = Faults fault ≡ x

-- what stays as it is while statements run: the statics have the types that are seen, statics and record are those of
-- the setting, and so many more calls may be open
pub record IsFixed (g : Sight) (setting : Setting) (room : ℕ) (callers : List Caller) (statics : List Slot)
    (input : Slot) : Type 0 where
  pub statics_typed : HaveTypes setting.statics g.statics
  pub statics_same : statics ≡ setting.statics
  pub input_seen : g.input ≡ true → (input ≡ setting.input) × IsSome setting.input × Fits setting.input Shape.bytes
  pub room_left : length callers + room ≡ most_open_calls

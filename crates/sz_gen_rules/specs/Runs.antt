-- What it says of code that it does what an expression means, stated backward: if the run comes to something from
-- what the expression gives, then it comes to it from the state before.
use Rattle.std.specs.Prelude.{◌≡◌, true, ℕ, suc, ◌≤◌, ◌<◌, ◌+◌, List, [], ◌∷◌, length, map, slice_get, Some, IsSome}
use Rattle.sz_types.specs.Data.{Shape}
use Rattle.sz_types.specs.declared.place.Place.{Place}
use Rattle.sz_value.specs.Data.{Datum}
use Rattle.sz_core.specs.Programs.{Signature}
use Rattle.sz_core.specs.Nodes.{Node}
use Rattle.sz_core.specs.Typing.{Sight, IsNode}
use Rattle.sz_instr.specs.declared.line.Line.{Line}
use Rattle.sz_instr.specs.declared.routine.Routine.{Routine}
use Rattle.sz_instr.specs.declared.code.Code.{Code}
use Rattle.sz_world_rules.specs.World.{World, Given, Gives, Stops, most_open_calls}
use Rattle.sz_world_rules.specs.Slots.{Slot, slot_at}
use Rattle.sz_world_rules.specs.Typed.{Fits, AllFit}
use Rattle.sz_mean.specs.Expressions.{Calls, Setting, eval}
use Rattle.sz_instr.specs.States.{Caller, State, After, Goes, Halts, Faults, Stuck}
use Rattle.sz_instr.specs.Rows.{call}
use Rattle.sz_instr.specs.Runs.{ComesTo}
use Rattle.sz_gen_rules.specs.Tables.{tables_in}
use Rattle.sz_gen_rules.specs.ExpressionCode.{expression_code}
use Rattle.sz_gen_rules.specs.Named.{HasNames}

-- what is known after an expression of a type: no ticks came back, and its slot has the type
pub record Kept (before : World) (t : Shape) (x : Slot) (after : World) : Type 0 where
  pub left : after.left ≤ before.left
  pub typed : Fits x t

-- the same after expressions of types
pub record AllKept (before : World) (ts : List Shape) (xs : List Slot) (after : World) : Type 0 where
  pub left : after.left ≤ before.left
  pub typed : AllFit xs ts

-- the slots on top of the stack, the last one topmost
abbrev pub with_all : List Slot → List Slot → List Slot
with_all [] stack = stack
with_all (x ∷ xs) stack = with_all xs (x ∷ stack)

-- what a line leads to comes to this
abbrev pub NextComes : Code → After → After → Type 0
NextComes code (Goes s) x = ComesTo code s x
NextComes code (Halts w statics) x = Halts w statics ≡ x
NextComes code (Faults fault) x = Faults fault ≡ x
NextComes code Stuck x = ⊥

-- the run comes to x from what an expression of this type gives, where the code goes on at a line with the slot on
-- the stack
abbrev pub AfterEval : Code → Shape → State → ℕ → After → Given Slot → Type 0
AfterEval code t s end x (Gives slot w) = Kept s.world t slot w
    → ComesTo code (record s { at = end; stack = slot ∷ s.stack; world = w }) x
AfterEval code t s end x (Stops fault) = Faults fault ≡ x

-- the same of expressions of these types
abbrev pub AfterAll : Code → List Shape → State → ℕ → After → Given (List Slot) → Type 0
AfterAll code ts s end x (Gives slots w) = AllKept s.world ts slots w
    → ComesTo code (record s { at = end; stack = with_all slots s.stack; world = w }) x
AfterAll code ts s end x (Stops fault) = Faults fault ≡ x

-- the machine's calls do what the meaning's do with these statics, with fewer ticks left than a limit, while so many
-- more may be open
pub record CallsBelow (code : Code) (signatures : List Signature) (statics : List Slot) (room limit : ℕ)
    (calls : Calls) : Type 0 where
  pub known : (f : ℕ) (g : Signature) → slice_get signatures f ≡ Some g
      → (r : Routine) × (slice_get code.functions f ≡ Some r) × (r.params ≡ length g.parameters)
  pub runs : (f : ℕ) (g : Signature) (r : Routine) (place : Place) (arguments : List Datum) (s : State)
      (stack : List Slot) (x : After) → slice_get signatures f ≡ Some g → slice_get code.functions f ≡ Some r
      → AllFit (map (λ d. Some d) arguments) g.parameters
      → s.statics ≡ statics → length s.callers + room ≡ most_open_calls → s.world.left < limit
      → AfterEval code g.result (record s { stack = stack }) (suc s.at) x (calls f place arguments s.world)
      → NextComes code (call r place arguments s stack) x

-- slots have types: for each type the slot with its number is there and has it
abbrev pub HaveTypes : List Slot → List Shape → Type 0
HaveTypes slots types = (n : ℕ) (t : Shape) → slice_get types n ≡ Some t → (n < length slots) × Fits (slot_at slots n) t

-- with these locals, statics, record and open calls there is what an expression sees, as the setting has it, and so
-- many more calls may be open
pub record IsReady (g : Sight) (setting : Setting) (room : ℕ) (locals statics : List Slot) (input : Slot)
    (callers : List Caller) : Type 0 where
  pub locals_typed : HaveTypes locals g.locals
  pub statics_typed : HaveTypes setting.statics g.statics
  pub statics_same : statics ≡ setting.statics
  pub input_seen : g.input ≡ true → (input ≡ setting.input) × IsSome setting.input × Fits setting.input Shape.bytes
  pub room_left : length callers + room ≡ most_open_calls

-- the same in a state
abbrev pub Ready : Sight → Setting → ℕ → State → Type 0
Ready g setting room s = IsReady g setting room s.locals s.statics s.input s.callers

-- the lines stand in the code from this place on
abbrev pub HasAt : List Line → ℕ → List Line → Type 0
HasAt lines at [] = Unit {0}
HasAt lines at (l ∷ rest) = (slice_get lines at ≡ Some l) × HasAt lines (suc at) rest

-- the run comes after code that ends at this line with what an expression gives, its slot on the stack, or to its fault
abbrev pub Leaves : Code → State → ℕ → Given Slot → Type 0
Leaves code s end (Gives slot w) = ComesTo code s (Goes (record s { at = end; stack = slot ∷ s.stack; world = w }))
Leaves code s end (Stops fault) = ComesTo code s (Faults fault)

-- wherever the code of an expression that has its type stands in code with what it names, the run comes after it with
-- the slot, the ticks and the emits that the expression gives, or to the expression's fault, in each state where what
-- the expression sees is there. The premise is that the calls of the machine do what those of the meaning do with
-- fewer ticks left.
pub record CodeDoesWhatIsMeant : Type 0 where
  pub runs : (code : Code) (g : Sight) (setting : Setting) (room : ℕ) (e : Node) (s : State)
      → CallsBelow code g.functions setting.statics room s.world.left setting.calls
      → IsNode g e → HasNames (tables_in code) e → Ready g setting room s
      → HasAt code.lines s.at (expression_code (tables_in code) e s.at)
      → Leaves code s (s.at + length (expression_code (tables_in code) e s.at)) (eval setting s.locals e s.world)

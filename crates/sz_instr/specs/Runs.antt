-- Runs: the charge of a line, one line in one state, and its repetition.
use Rattle.std.specs.Prelude.{◌≡◌, ℕ, zero, suc, ◌+◌, ◌*◌, List, [], ◌∷◌, length, slice_get, Option, Some, None}
use Rattle.sz_types.specs.Data.{Shape}
use Rattle.sz_value.specs.Data.{Datum, bytes}
use Rattle.sz_tabs.specs.Data.{EmitDatum}
use Rattle.sz_instr.specs.declared.instr.Instr.{Instr}
use Rattle.sz_instr.specs.declared.instr.Instr.TheVariants.{Binary, Apply, Convert, Decode, MakeArray, MakeTuple, MakeMap, Slice, Emit, Next}
use Rattle.sz_instr.specs.declared.line.Line.{Line}
use Rattle.sz_instr.specs.declared.routine.Routine.{Routine}
use Rattle.sz_instr.specs.declared.code.Code.{Code}
use Rattle.sz_world_rules.specs.World.{World, new_world, spend, budget_passed, Outcome, Done, Faulted}
use Rattle.sz_world_rules.specs.Slots.{Slot, undefined_slots}
use Rattle.sz_world_rules.specs.Operations.{binary_of, applied, converted_plainly, decoded_as, array_of, tuple_of, map_of, slice_of}
use Rattle.sz_types.specs.Rows.{arity}
use Rattle.sz_world_rules.specs.Ticks.{result_weight, binary_weight, builtin_weight, conversion_weight}
use Rattle.sz_world_rules.specs.Emits.{emit_weight}
use Rattle.sz_instr.specs.States.{State, After, Goes, Halts, Faults, Stuck, faults, entered, popped}
use Rattle.sz_instr.specs.Rows.{by_type, act, emit_parts}
use Rattle.sz_instr.specs.Covering.{Covers}

-- what a conversion to a type adds
abbrev pub conversion_added : Option Shape → Slot → ℕ
conversion_added None x = 0
conversion_added (Some t) x = conversion_weight t x (converted_plainly t x)

-- the weight that an instruction's result adds to the charge of its line
abbrev pub weight_added : Code → Instr → List Slot → ℕ
weight_added code (Binary op) (y ∷ x ∷ stack) = binary_weight op (binary_of op x y)
weight_added code (Apply b) stack = builtin_weight b (applied b (popped (arity b) stack))
weight_added code (Convert ty) (x ∷ stack) = conversion_added (slice_get code.types ty) x
weight_added code (Decode ty) (x ∷ stack) = result_weight (by_type decoded_as (slice_get code.types ty) x)
weight_added code (MakeArray count) stack = result_weight (array_of (popped count stack))
weight_added code (MakeTuple count) stack = result_weight (tuple_of (popped count stack))
weight_added code (MakeMap count) stack = result_weight (map_of (popped (2 * count) stack))
weight_added code Slice (z ∷ y ∷ x ∷ stack) = result_weight (slice_of x y z)
weight_added code (Emit table indexes weighted) stack = emit_weight (emit_parts indexes weighted stack)
weight_added code _ _ = 0

-- the charge of the next candidate: nothing where none is left
abbrev pub candidate_charge : List (List Datum) → ℕ → ℕ
candidate_charge ([] ∷ lists) charge = 0
candidate_charge _ charge = charge

-- the ticks that a line takes in a state for its instruction
abbrev pub charge_of : Code → ℕ → Instr → State → ℕ
charge_of code charge (Next n to) s = candidate_charge s.lists charge
charge_of code charge instr s = charge + weight_added code instr s.stack

-- what a line does with the ticks taken, or the budget is passed
abbrev pub charged : Code → Line → State → Option World → After
charged code line s None = faults budget_passed line.place
charged code line s (Some w) = act code line.instr line.place (record s { world = w })

-- what a line leads to in a state: its charge is taken first
abbrev pub does : Code → Line → State → After
does code line s = charged code line s (spend (charge_of code line.charge line.instr s) s.world)

-- a line that is there does this in a state, whose row covers the state
abbrev pub LeadsBy : Code → Option Line → State → After → Type 0
LeadsBy code None s x = ⊥
LeadsBy code (Some line) s x = Covers code line.instr s × (does code line s ≡ x)

-- one line leads from the state to this
abbrev pub Leads : Code → State → After → Type 0
Leads code s x = LeadsBy code (slice_get code.lines s.at) s x

-- this is what the run comes to, or where it goes on
abbrev pub GoesOn : After → (State → Type 0) → After → Type 0
GoesOn (Goes s) next x = next s
GoesOn (Halts w statics) next x = Halts w statics ≡ x
GoesOn (Faults fault) next x = Faults fault ≡ x
GoesOn Stuck next x = ⊥

-- so many lines lead from the state to this
abbrev pub RunsFor : Code → ℕ → State → After → Type 0
RunsFor code zero s x = Goes s ≡ x
RunsFor code (suc n) s x = (y : After) × Leads code s y × GoesOn y (λ next. RunsFor code n next x) x

-- the run comes from the state to this, which is another state, the end of the run or a fault
pub record ComesTo (code : Code) (s : State) (x : After) : Type 0 where
  pub steps : ℕ
  pub runs : RunsFor code steps s x

-- the state in which a record begins
abbrev pub record_start : Code → List ℕ → List Slot → ℕ → State
record_start code input statics budget = entered code.main statics (Some (bytes input)) (new_world budget)

-- what a run for a record comes to is this outcome
abbrev pub EndsRecord : After → Outcome (List EmitDatum) → Type 0
EndsRecord (Halts w statics) r = r ≡ Done w.emits
EndsRecord (Faults fault) r = r ≡ Faulted fault
EndsRecord _ r = ⊥

-- the run of the code for a record ends with this outcome
pub record RunsTo (code : Code) (input : List ℕ) (statics : List Slot) (budget : ℕ)
    (r : Outcome (List EmitDatum)) : Type 0 where
  pub end : After
  pub comes : ComesTo code (record_start code input statics budget) end
  pub is : EndsRecord end r

-- what a static's run comes to is the fault of all, or the next statics run on
abbrev pub EndsStatic : After → (World → List Slot → Type 0) → Outcome (List Slot) → Type 0
EndsStatic (Halts w statics) next r = next w statics
EndsStatic (Faults fault) next r = r ≡ Faulted fault
EndsStatic _ next r = ⊥

-- the runs of these routines, one after the other from these statics, end with this outcome
abbrev pub RoutinesRunTo : Code → List Routine → World → List Slot → Outcome (List Slot) → Type 0
RoutinesRunTo code [] w statics r = r ≡ Done statics
RoutinesRunTo code (routine ∷ rest) w statics r =
    (end : After) × ComesTo code (entered routine statics None w) end
    × EndsStatic end (λ next slots. RoutinesRunTo code rest next slots r) r

-- the run of the code's statics ends with this outcome
abbrev pub StaticsRunTo : Code → ℕ → Outcome (List Slot) → Type 0
StaticsRunTo code budget r =
    RoutinesRunTo code code.statics (new_world budget) (undefined_slots (length code.statics)) r

-- Which states the row of an instruction covers: its operands are there and have types that the row needs, and its
-- numbers lead to something. In a state that no row covers nothing happens.
use Rattle.std.specs.Prelude.{◌≡◌, ℕ, ◌<◌, ◌≤◌, ◌*◌, List, [], ◌∷◌, map, length, slice_get, Bool, true, false, not, Option, Some, None, IfSome, IsSome, IsNone}
use Rattle.sz_types.specs.Data.{Shape}
use Rattle.sz_types.specs.Rows.{unary_row, binary_row, index_row, slice_row, builtin_row, arity}
use Rattle.sz_types.specs.Conversions.{converts_to}
use Rattle.sz_types.specs.Tables.{Declaration}
use Rattle.sz_types.specs.declared.operator.UnOp.{UnOp}
use Rattle.sz_types.specs.declared.operator.BinOp.{BinOp}
use Rattle.sz_types.specs.declared.operator.Builtin.{Builtin}
use Rattle.sz_value.specs.Data.{Datum, str, bytes, array, mapping}
use Rattle.sz_core.specs.Typing.{field_types}
use Rattle.sz_instr.specs.declared.instr.Instr.{Instr}
use Rattle.sz_instr.specs.declared.instr.Instr.TheVariants.{Push, Local, Static, Input, Keep, KeepStatic, Clear, Store, Unary, Binary, Apply}
use Rattle.sz_instr.specs.declared.instr.Instr.TheVariants.{Convert, Decode, MakeArray, MakeTuple, MakeMap, Index, Slice, Field, Def, Tick, Jump, Test}
use Rattle.sz_instr.specs.declared.instr.Instr.TheVariants.{AndTest, OrTest, Call, Return, EndRecord, Discard, Emit, Enter, Next, Leave, Meets, Fails}
use Rattle.sz_instr.specs.declared.step.Step.{Step}
use Rattle.sz_instr.specs.declared.routine.Routine.{Routine}
use Rattle.sz_instr.specs.declared.code.Code.{Code}
use Rattle.sz_world_rules.specs.Slots.{Slot, slot_at}
use Rattle.sz_world_rules.specs.Typed.{Fits, AllFit}
use Rattle.sz_world_rules.specs.Operations.{part_at}
use Rattle.sz_world_rules.specs.Emits.{EmitParts}
use Rattle.sz_world_rules.specs.Stores.{by_index, by_field}
use Rattle.sz_world_rules.specs.Stores as stores
use Rattle.sz_instr.specs.States.{State, Caller, popped}
use Rattle.sz_instr.specs.Rows.{step_of, indexes_in, emit_operands, emit_parts}

-- there is a topmost operand, of which this holds
abbrev pub OnOne : List Slot → (Slot → Type 0) → Type 0
OnOne [] P = ⊥
OnOne (x ∷ stack) P = P x

-- there are two topmost operands, of which this holds, the upper one being the last
abbrev pub OnTwo : List Slot → (Slot → Slot → Type 0) → Type 0
OnTwo (y ∷ x ∷ stack) P = P x y
OnTwo _ P = ⊥

-- there are three topmost operands, of which this holds, the upmost one being the last
abbrev pub OnThree : List Slot → (Slot → Slot → Slot → Type 0) → Type 0
OnThree (z ∷ y ∷ x ∷ stack) P = P x y z
OnThree _ P = ⊥

-- there are so many operands, of which this holds, the upmost one being the last
abbrev pub OnMany : ℕ → List Slot → (List Slot → Type 0) → Type 0
OnMany count stack P = (count ≤ length stack) × P (popped count stack)

-- something holds of whatever is there
abbrev pub Any : Slot → Type 0
Any x = Unit {0}

-- an operand of a truth value
abbrev pub IsTest : Slot → Type 0
IsTest x = Fits x Shape.truth

-- an operator of one operand has a row for the operand's type
abbrev pub HasUnaryRow : UnOp → Slot → Type 0
HasUnaryRow op x = (t u : Shape) × (unary_row op t ≡ Some u) × Fits x t

-- an operator of two operands has a row for their types
abbrev pub HasBinaryRow : BinOp → Slot → Slot → Type 0
HasBinaryRow op x y = (s t u : Shape) × (binary_row op s t ≡ Some u) × Fits x s × Fits y t

-- a predeclared function has a row for the types of its arguments
abbrev pub HasBuiltinRow : Builtin → List Slot → Type 0
HasBuiltinRow b xs = (ts : List Shape) × (u : Shape) × (builtin_row b ts ≡ Some u) × AllFit xs ts

-- a type of the operand converts to the type, which is no proto type
abbrev pub HasConversion : Option Shape → Slot → Type 0
HasConversion None x = ⊥
HasConversion (Some (Shape.proto _)) x = ⊥
HasConversion (Some t) x = (s : Shape) × (converts_to s t ≡ true) × Fits x s

-- the operand is bytes, if it is defined, and the type is a proto type
abbrev pub IsDecoded : Option Shape → Slot → Type 0
IsDecoded (Some (Shape.proto _)) x = Fits x Shape.bytes
IsDecoded _ x = ⊥

-- there is a row of indexes for the types of the two
abbrev pub HasIndexRow : Slot → Slot → Type 0
HasIndexRow x i = (s t u : Shape) × (index_row s t ≡ Some u) × Fits x s × Fits i t

-- there is a row of slices for the type of the first, and the others are whole numbers
abbrev pub HasSliceRow : Slot → Slot → Slot → Type 0
HasSliceRow x i j = (t u : Shape) × (slice_row t ≡ Some u) × Fits x t × Fits i Shape.int × Fits j Shape.int

-- the operand has a part at this place, if it is defined
abbrev pub HasPart : ℕ → Slot → Type 0
HasPart n x = IfSome x (λ d. IsSome (part_at n d))

-- the steps lead from a value of the first type, by indexes of these types, to one of the second type
abbrev pub LeadsTo : Shape → List stores.Step → List Shape → Shape → Type 0
LeadsTo t [] is u = (is ≡ []) × (u ≡ t)
LeadsTo (Shape.array t) (by_index ∷ path) (i ∷ is) u = (i ≡ Shape.int) × LeadsTo t path is u
LeadsTo (Shape.mapping k v) (by_index ∷ path) (i ∷ is) u = (i ≡ k) × LeadsTo v path is u
LeadsTo (Shape.tuple fields) (by_field n ∷ path) is u =
    (t : Shape) × (slice_get (field_types fields) n ≡ Some t) × LeadsTo t path is u
LeadsTo (Shape.proto fields) (by_field n ∷ path) is u =
    (t : Shape) × (slice_get (field_types fields) n ≡ Some t) × LeadsTo t path is u
LeadsTo t (_ ∷ path) is u = ⊥

-- the path leads from the local to where the value goes, by types that the local, the indexes and the value have
abbrev pub HasPath : List Step → Slot → List Slot → Slot → Type 0
HasPath path old indexes new =
    (t u : Shape) × (is : List Shape) × LeadsTo t (map step_of path) is u × Fits old t × AllFit indexes is × Fits new u

-- the same of operands: the value is topmost, and so many indexes are below it
abbrev pub StoresInto : List Step → Slot → List Slot → Type 0
StoresInto path old [] = ⊥
StoresInto path old (x ∷ stack) = OnMany (indexes_in path) stack (λ indexes. HasPath path old indexes x)

-- a weight is there exactly where the table has one, and of its type
abbrev pub WeightFits : Option Slot → Option Shape → Type 0
WeightFits None None = Unit {0}
WeightFits (Some w) (Some t) = Fits w t
WeightFits _ _ = ⊥

-- the parts of an emit have the types of the table
abbrev pub PartsFit : Option Declaration → EmitParts → Type 0
PartsFit None parts = ⊥
PartsFit (Some d) parts = AllFit parts.indexes d.indexes × Fits parts.value d.element × WeightFits parts.weight d.weight

-- the table takes lines with counts: one index and the element are whole numbers, and there is no weight
abbrev pub TakesLines : Option Declaration → Type 0
TakesLines None = ⊥
TakesLines (Some d) = (d.indexes ≡ Shape.int ∷ []) × (d.element ≡ Shape.int) × (d.weight ≡ None)

-- where the code counts lines, its table for them takes them
abbrev pub CanCount : Code → Option ℕ → Type 0
CanCount code None = Unit {0}
CanCount code (Some table) = TakesLines (slice_get code.tables table)

-- where the operand is undefined, this holds
abbrev pub IfUndefined : Type 0 → Slot → Type 0
IfUndefined P None = P
IfUndefined P (Some d) = Unit {0}

-- whether a value has candidates: for bounds of slices, or for indexes and keys
abbrev pub is_base : Bool → Datum → Bool
is_base slice (array ds) = true
is_base slice (str s) = true
is_base slice (bytes s) = true
is_base slice (mapping es) = not slice
is_base slice _ = false

-- the function is there, and as many operands as it has parameters
abbrev pub HasArguments : Option Routine → List Slot → Type 0
HasArguments None stack = ⊥
HasArguments (Some r) stack = r.params ≤ length stack

-- a routine waits
abbrev pub HasCaller : List Caller → Type 0
HasCaller [] = ⊥
HasCaller (c ∷ callers) = Unit {0}

-- there is a candidate list
abbrev pub HasList : List (List Datum) → Type 0
HasList [] = ⊥
HasList (cs ∷ lists) = Unit {0}

-- the row of the instruction covers the state. The record is pushed only where there is one, and statics are kept
-- only where there is none, which is while they are computed. What may use an undefined value needs a table for
-- lines, where they are counted.
abbrev pub Covers : Code → Instr → State → Type 0
Covers code (Push constant) s = constant < length code.constants
Covers code (Local n) s = n < length s.locals
Covers code (Static n) s = n < length s.statics
Covers code Input s = IsSome s.input
Covers code (Keep n) s = (n < length s.locals) × OnOne s.stack Any
Covers code (KeepStatic n) s = (n < length s.statics) × OnOne s.stack Any × IsNone s.input
Covers code (Clear n) s = n < length s.locals
Covers code (Store n path) s = (n < length s.locals) × StoresInto path (slot_at s.locals n) s.stack
    × CanCount code code.ignore
Covers code (Unary op) s = OnOne s.stack (HasUnaryRow op)
Covers code (Binary op) s = OnTwo s.stack (HasBinaryRow op)
Covers code (Apply b) s = OnMany (arity b) s.stack (HasBuiltinRow b)
Covers code (Convert ty) s = OnOne s.stack (HasConversion (slice_get code.types ty))
Covers code (Decode ty) s = OnOne s.stack (IsDecoded (slice_get code.types ty))
Covers code (MakeArray count) s = count ≤ length s.stack
Covers code (MakeTuple count) s = count ≤ length s.stack
Covers code (MakeMap count) s = 2 * count ≤ length s.stack
Covers code Index s = OnTwo s.stack HasIndexRow
Covers code Slice s = OnThree s.stack HasSliceRow
Covers code (Field n) s = OnOne s.stack (HasPart n)
Covers code Def s = OnOne s.stack Any
Covers code Tick s = Unit {0}
Covers code (Jump to) s = Unit {0}
Covers code (Test to past) s = OnOne s.stack IsTest × CanCount code code.ignore
Covers code (AndTest to) s = OnOne s.stack IsTest
Covers code (OrTest to) s = OnOne s.stack IsTest
Covers code (Call function) s = HasArguments (slice_get code.functions function) s.stack
Covers code Return s = OnOne s.stack Any × HasCaller s.callers
Covers code EndRecord s = Unit {0}
Covers code Discard s = OnOne s.stack (IfUndefined (CanCount code code.ignore))
Covers code (Emit table indexes weighted) s =
    (emit_operands indexes weighted ≤ length s.stack)
    × PartsFit (slice_get code.tables table) (emit_parts indexes weighted s.stack)
    × CanCount code code.ignore
Covers code (Enter slice) s = OnOne s.stack (λ x. IfSome x (λ d. is_base slice d ≡ true))
Covers code (Next n to) s = (n < length s.locals) × HasList s.lists
Covers code Leave s = HasList s.lists
Covers code (Meets to) s = OnOne s.stack IsTest
Covers code (Fails to) s = OnOne s.stack IsTest

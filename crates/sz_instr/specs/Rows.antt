-- What each instruction does, its charge being taken.
use Rattle.std.specs.Prelude.{ℕ, suc, ◌+◌, ◌*◌, nat_lt, if◌then◌else◌, Bool, true, false, Option, Some, None}
use Rattle.std.specs.Prelude.{List, [], ◌∷◌, map, drop, length, slice_get, slice_set}
use Rattle.sz_types.specs.Data.{Shape}
use Rattle.sz_types.specs.declared.place.Place.{Place}
use Rattle.sz_value.specs.Data.{Datum, truth}
use Rattle.sz_instr.specs.declared.instr.Instr.{Instr}
use Rattle.sz_instr.specs.declared.instr.Instr.TheVariants.{Push, Local, Static, Input, Keep, KeepStatic, Clear, Store, Unary, Binary, Apply}
use Rattle.sz_instr.specs.declared.instr.Instr.TheVariants.{Convert, Decode, MakeArray, MakeTuple, MakeMap, Index, Slice, Field, Def, Tick, Jump, Test}
use Rattle.sz_instr.specs.declared.instr.Instr.TheVariants.{AndTest, OrTest, Call, Return, EndRecord, Discard, Emit, Enter, Next, Leave, Meets, Fails}
use Rattle.sz_instr.specs.declared.step.Step.{Step}
use Rattle.sz_instr.specs.declared.step.Step.TheVariants as steps
use Rattle.sz_instr.specs.declared.routine.Routine.{Routine}
use Rattle.sz_instr.specs.declared.code.Code.{Code}
use Rattle.sz_world_rules.specs.World.{undefined_used, store_outside, calls_too_deep, most_open_calls}
use Rattle.sz_world_rules.specs.Slots.{Slot, slot_at, all_defined, fresh}
use Rattle.sz_world_rules.specs.Operations.{unary_of, binary_of, applied, converted_plainly, decoded_as, array_of, tuple_of, map_of}
use Rattle.sz_types.specs.Rows.{arity}
use Rattle.sz_world_rules.specs.Operations.{element_of, slice_of, part_of, definedness}
use Rattle.sz_world_rules.specs.Emits.{EmitParts, emit_of, line_emit, emit_or_line, with_emit}
use Rattle.sz_world_rules.specs.Candidates.{candidates}
use Rattle.sz_world_rules.specs.Stores.{by_index, by_field, Stored, Holds, Undefined, Outside, stored}
use Rattle.sz_world_rules.specs.Stores as stores
use Rattle.sz_instr.specs.States.{Caller, State, After, Goes, Halts, Stuck, goes_to, goes_on, faults, on_one, on_two, on_three, popped}

-- a step of a path
abbrev pub step_of : Step → stores.Step
step_of steps.Index = by_index
step_of (steps.Field n) = by_field n

-- how many indexes the steps of a path take
abbrev pub indexes_in : List Step → ℕ
indexes_in [] = 0
indexes_in (steps.Index ∷ path) = suc (indexes_in path)
indexes_in (steps.Field n ∷ path) = indexes_in path

-- what an operand becomes by a type, if it is there
abbrev pub by_type : (Shape → Slot → Slot) → Option Shape → Slot → Slot
by_type made None x = None
by_type made (Some t) x = made t x

-- an undefined value was used: a fault, but where lines are counted, the line is, and the run goes to a place with
-- these operands
abbrev pub pass_over : Option ℕ → Place → State → ℕ → List Slot → After
pass_over None place s to stack = faults undefined_used place
pass_over (Some table) place s to stack =
    goes_to (record s { world = with_emit (Some (line_emit table place)) s.world }) to stack

-- the local holds what came of a store, or the store's fault
abbrev pub after_store : Option ℕ → Stored → Place → ℕ → State → List Slot → After
after_store counting (Holds d) place n s stack =
    Goes (record s { at = suc s.at; stack = stack; locals = slice_set s.locals n (Some d) })
after_store counting Undefined place n s stack = pass_over counting place s (suc s.at) stack
after_store counting Outside place n s stack = faults store_outside place

-- a store of the topmost operand, with so many indexes below it
abbrev pub store : Option ℕ → List Step → ℕ → Place → ℕ → State → After
store counting path indexes place n s =
    on_one s.stack (λ x stack.
    after_store counting (stored (slot_at s.locals n) (map step_of path) (popped indexes stack) x) place n s
    (drop indexes stack))

-- the first where the slot is true, the second where it is false, the third where it is undefined
abbrev pub by_truth : Slot → (first second unknown : After) → After
by_truth None first second unknown = unknown
by_truth (Some (truth true)) first second unknown = first
by_truth (Some _) first second unknown = second

-- the first where the slot is true, else the second
abbrev pub if_true : Slot → After → After → After
if_true (Some (truth true)) first second = first
if_true _ first second = second

-- the first where the slot is false, else the second
abbrev pub if_false : Slot → After → After → After
if_false (Some (truth false)) first second = first
if_false _ first second = second

-- the first where the slot is defined, else the second
abbrev pub if_defined : Slot → (next unknown : After) → After
if_defined None next unknown = unknown
if_defined (Some d) next unknown = next

-- a function is entered with its arguments, and the routine that runs waits
abbrev pub enter : Routine → List Datum → State → List Slot → After
enter r arguments s stack = Goes (record s {
  at = r.entry;
  stack = stack;
  locals = fresh r.locals arguments;
  lists = [];
  callers = record { locals = s.locals; back = suc s.at; lists = s.lists } ∷ s.callers;
})

-- a call with defined arguments, unless too many are open
abbrev pub call : Routine → Place → List Datum → State → List Slot → After
call r place arguments s stack =
    if nat_lt (length s.callers) most_open_calls then enter r arguments s stack else faults calls_too_deep place

-- a call with these arguments; one with an undefined argument isn't made
abbrev pub call_with : Option (List Datum) → Routine → Place → State → List Slot → After
call_with None r place s stack = goes_on s (None ∷ stack)
call_with (Some arguments) r place s stack = call r place arguments s stack

-- a call of a routine with the topmost operands as its arguments
abbrev pub call_routine : Option Routine → Place → State → After
call_routine None place s = Stuck
call_routine (Some r) place s = call_with (all_defined (popped r.params s.stack)) r place s (drop r.params s.stack)

-- the routine that waited goes on, with a slot more on the stack
abbrev pub leave_to : List Caller → Slot → State → List Slot → After
leave_to [] x s stack = Stuck
leave_to (c ∷ callers) x s stack =
    Goes (record s { at = c.back; stack = x ∷ stack; locals = c.locals; lists = c.lists; callers = callers })

-- how many operands an emit pops
abbrev pub emit_operands : ℕ → Bool → ℕ
emit_operands indexes false = indexes + 1
emit_operands indexes true = indexes + 2

-- the parts of an emit on the stack: its weight, if it has one, above its value, above its indexes
abbrev pub emit_parts : ℕ → Bool → List Slot → EmitParts
emit_parts indexes false (x ∷ stack) = record { indexes = popped indexes stack; value = x; weight = None }
emit_parts indexes true (w ∷ x ∷ stack) = record { indexes = popped indexes stack; value = x; weight = Some w }
emit_parts indexes _ _ = record { indexes = []; value = None; weight = None }

-- the next candidate of the innermost list, or the end of that list
abbrev pub next_candidate : List (List Datum) → ℕ → ℕ → State → After
next_candidate [] n to s = Stuck
next_candidate ([] ∷ lists) n to s = Goes (record s { at = to; lists = lists })
next_candidate ((c ∷ cs) ∷ lists) n to s =
    Goes (record s { at = suc s.at; locals = slice_set s.locals n (Some c); lists = cs ∷ lists })

-- the innermost candidate list is dropped
abbrev pub drop_list : List (List Datum) → State → After
drop_list [] s = Stuck
drop_list (cs ∷ lists) s = Goes (record s { at = suc s.at; lists = lists })

-- what an instruction does in a state, in code and for a place of the program's text
abbrev pub act : Code → Instr → Place → State → After
act code (Push constant) place s = goes_on s (slice_get code.constants constant ∷ s.stack)
act code (Local n) place s = goes_on s (slot_at s.locals n ∷ s.stack)
act code (Static n) place s = goes_on s (slot_at s.statics n ∷ s.stack)
act code Input place s = goes_on s (s.input ∷ s.stack)
act code (Keep n) place s =
    on_one s.stack (λ x stack. Goes (record s { at = suc s.at; stack = stack; locals = slice_set s.locals n x }))
act code (KeepStatic n) place s =
    on_one s.stack (λ x stack. Goes (record s { at = suc s.at; stack = stack; statics = slice_set s.statics n x }))
act code (Clear n) place s = Goes (record s { at = suc s.at; locals = slice_set s.locals n None })
act code (Store n path) place s = store code.ignore path (indexes_in path) place n s
act code (Unary op) place s = on_one s.stack (λ x stack. goes_on s (unary_of op x ∷ stack))
act code (Binary op) place s = on_two s.stack (λ x y stack. goes_on s (binary_of op x y ∷ stack))
act code (Apply b) place s = goes_on s (applied b (popped (arity b) s.stack) ∷ drop (arity b) s.stack)
act code (Convert ty) place s =
    on_one s.stack (λ x stack. goes_on s (by_type converted_plainly (slice_get code.types ty) x ∷ stack))
act code (Decode ty) place s =
    on_one s.stack (λ x stack. goes_on s (by_type decoded_as (slice_get code.types ty) x ∷ stack))
act code (MakeArray count) place s = goes_on s (array_of (popped count s.stack) ∷ drop count s.stack)
act code (MakeTuple count) place s = goes_on s (tuple_of (popped count s.stack) ∷ drop count s.stack)
act code (MakeMap count) place s = goes_on s (map_of (popped (2 * count) s.stack) ∷ drop (2 * count) s.stack)
act code Index place s = on_two s.stack (λ x y stack. goes_on s (element_of x y ∷ stack))
act code Slice place s = on_three s.stack (λ x y z stack. goes_on s (slice_of x y z ∷ stack))
act code (Field n) place s = on_one s.stack (λ x stack. goes_on s (part_of n x ∷ stack))
act code Def place s = on_one s.stack (λ x stack. goes_on s (definedness x ∷ stack))
act code Tick place s = goes_on s s.stack
act code (Jump to) place s = goes_to s to s.stack
act code (Test to past) place s =
    on_one s.stack
    (λ x stack. by_truth x (goes_on s stack) (goes_to s to stack) (pass_over code.ignore place s past stack))
act code (AndTest to) place s = on_one s.stack (λ x stack. if_true x (goes_on s stack) (goes_to s to (x ∷ stack)))
act code (OrTest to) place s = on_one s.stack (λ x stack. if_false x (goes_on s stack) (goes_to s to (x ∷ stack)))
act code (Call function) place s = call_routine (slice_get code.functions function) place s
act code Return place s = on_one s.stack (λ x stack. leave_to s.callers x s stack)
act code EndRecord place s = Halts s.world s.statics
act code Discard place s =
    on_one s.stack (λ x stack. if_defined x (goes_on s stack) (pass_over code.ignore place s (suc s.at) stack))
act code (Emit table indexes weighted) place s = Goes (record s {
  at = suc s.at;
  stack = drop (emit_operands indexes weighted) s.stack;
  world = with_emit (emit_or_line (emit_of table (emit_parts indexes weighted s.stack)) code.ignore place) s.world;
})
act code (Enter slice) place s =
    on_one s.stack (λ x stack. Goes (record s { at = suc s.at; stack = stack; lists = candidates slice x ∷ s.lists }))
act code (Next n to) place s = next_candidate s.lists n to s
act code Leave place s = drop_list s.lists s
act code (Meets to) place s = on_one s.stack (λ x stack. if_true x (goes_on s stack) (goes_to s to stack))
act code (Fails to) place s = on_one s.stack (λ x stack. if_false x (goes_to s to stack) (goes_on s stack))

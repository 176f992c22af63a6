-- How statements end, and what runs on from there: one statement after another, and the turns of loops.
use Rattle.std.specs.Prelude.{ℕ, zero, suc, List, slice_set, true, Option, Some, None}
use Rattle.sz_types.specs.declared.place.Place.{Place}
use Rattle.sz_value.specs.Data.{truth}
use Rattle.sz_world_rules.specs.World.{Gives, Doing, ◌>>=◌, ◌>>◌, give, pay, fails, undefined_used, budget_passed}
use Rattle.sz_world_rules.specs.Slots.{Slot}
use Rattle.sz_world_rules.specs.Emits.{line_emit, with_emit}

-- how a statement ends: at its end, by `break` or by `continue`, each with the variables as they are then, or by
-- `return`
pub data Ending : Type 0 where
  Normal : (locals : List Slot) → Ending
  Breaks : (locals : List Slot) → Ending
  Continues : (locals : List Slot) → Ending
  Returns : (result : Slot) → Ending

-- what runs with the variables as they are
abbrev pub Running : Type 0
Running = List Slot → Doing Ending

-- the variables with one that holds a slot
abbrev pub with_local : ℕ → Slot → List Slot → List Slot
with_local n x locals = slice_set locals n x

-- after a statement the run goes on where it came to its end
abbrev pub then_run : Ending → Running → Doing Ending
then_run (Normal locals) next = next locals
then_run (Breaks locals) next = give (Breaks locals)
then_run (Continues locals) next = give (Continues locals)
then_run (Returns result) next = give (Returns result)

-- after the body of a loop the loop goes on, unless the body left it by `break` or `return`
abbrev pub then_loop : Ending → Running → Doing Ending
then_loop (Normal locals) next = next locals
then_loop (Breaks locals) next = give (Normal locals)
then_loop (Continues locals) next = next locals
then_loop (Returns result) next = give (Returns result)

-- an undefined value was used: a fault, but where lines are counted, the statement is passed over and its line is
-- counted
abbrev pub passed_over : Option ℕ → Place → Running
passed_over None place locals = fails undefined_used place
passed_over (Some table) place locals = λ w. Gives (Normal locals) (with_emit (Some (line_emit table place)) w)

-- the first where the test is true, the second where it is false, the third where it is undefined
abbrev pub chosen : Slot → (first second unknown : Doing Ending) → Doing Ending
chosen None first second unknown = unknown
chosen (Some (truth true)) first second unknown = first
chosen (Some _) first second unknown = second

-- a loop that is tested before each turn: a test, a turn, and what is done between turns. Each return to the test
-- takes a tick, so that there are fewer turns than one more than the ticks at the beginning, and the answer without
-- turns never comes.
module _ (counting : Option ℕ) (place : Place) (test : List Slot → Doing Slot) (between body : Running) where
  abbrev pub turns : ℕ → Running
  turns zero locals = fails budget_passed place
  turns (suc n) locals = do
    x ← test locals
    pay 1 place
    chosen x (turn (turns n) locals) (give (Normal locals)) (passed_over counting place locals)
    where
      turn : Running → Running
      turn next locals = do
        ending ← body locals
        then_loop ending (λ after. do
          stepped ← between after
          then_run stepped (λ stepped_locals. do
            pay 1 place
            next stepped_locals))

-- a loop that is tested after each turn. Each return to the body takes a tick.
module _ (counting : Option ℕ) (place : Place) (body : Running) (test : List Slot → Doing Slot) where
  abbrev pub turns_after : ℕ → Running
  turns_after zero locals = fails budget_passed place
  turns_after (suc n) locals = do
    ending ← body locals
    then_loop ending (tested (turns_after n))
    where
      tested : Running → Running
      tested next locals = do
        x ← test locals
        pay 1 place
        chosen x (pay 1 place >> next locals) (give (Normal locals)) (passed_over counting place locals)

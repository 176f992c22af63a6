-- What statements do. At one statement the budget is asked first, then whether a value is undefined, then where a
-- store leads.
use Rattle.std.specs.Prelude.{ℕ, suc, ◌+◌, List, map, true, Option, Some, None}
use Rattle.sz_types.specs.declared.place.Place.{Place}
use Rattle.sz_value.specs.Data.{truth}
use Rattle.sz_core.specs.Nodes.{Node}
use Rattle.sz_core.specs.Statements.{Step, at_index, at_field, Stm, block, clear, keep, store, evaluate, branch, while, do_while, for_loop, break, continue}
use Rattle.sz_core.specs.Statements.{return_value, end_record, emit, Quantified, when, Stms, no_stms, with_stm}
use Rattle.sz_world_rules.specs.World.{Gives, Doing, ◌>>=◌, ◌>>◌, give, pay, fails, store_outside}
use Rattle.sz_world_rules.specs.Slots.{Slot, slot_at}
use Rattle.sz_world_rules.specs.Emits.{EmitParts, emit_of, emit_weight, emit_or_line, with_emit}
use Rattle.sz_world_rules.specs.Stores.{by_index, by_field, Stored, Holds, Undefined, Outside, stored}
use Rattle.sz_world_rules.specs.Stores as stores
use Rattle.sz_mean.specs.Expressions.{Setting, eval, eval_all, eval_indexes, eval_if_some}
use Rattle.sz_mean.specs.Endings.{Ending, Normal, Breaks, Continues, Returns, Running, with_local, then_run, passed_over, chosen, turns, turns_after}
use Rattle.sz_mean.specs.Search.{Variable, exec_when}

-- a step without its index
abbrev pub bare : Step → stores.Step
bare (at_index e) = by_index
bare (at_field n) = by_field n

-- the variables with what came of a store into one of them, or the store's fault
abbrev pub assigned : Option ℕ → Stored → Place → ℕ → Running
assigned counting (Holds d) place n locals = give (Normal (with_local n (Some d) locals))
assigned counting Undefined place n locals = passed_over counting place locals
assigned counting Outside place n locals = fails store_outside place

-- the first where the value is defined, else the second
abbrev pub if_defined : Slot → (next unknown : Doing Ending) → Doing Ending
if_defined None next unknown = unknown
if_defined (Some d) next unknown = next

-- the ticks of an emit are taken, and then it is added to the emits; where a part is undefined nothing is, but for
-- its line, where lines are counted
abbrev pub emits : Option ℕ → Place → ℕ → EmitParts → Running
emits counting place table parts locals = do
  pay (1 + emit_weight parts) place
  λ w. Gives (Normal locals) (with_emit (emit_or_line (emit_of table parts) counting place) w)

-- the test of a loop: a missing one is true
abbrev pub test_of : Setting → Option Node → List Slot → Doing Slot
test_of s None locals = give (Some (truth true))
test_of s (Some e) locals = eval s locals e

-- nothing is done
abbrev pub idle : Running
idle locals = give (Normal locals)

-- a loop with as many turns as the ticks that are left can be enough for
abbrev pub while_ticks : (ℕ → Running) → Running
while_ticks loop locals = λ w. loop (suc w.left) locals w

module _ (s : Setting) where
  -- a variable of `when`, with what its base gives
  abbrev pub variable_of : Quantified → Variable
  variable_of v = record { quantity = v.quantity; local = v.local; slice = v.slice; base = λ l. eval s l v.base }

  abbrev mutual
    -- what a statement does, in a setting
    pub exec : Stm → Running
    exec (block ss) locals = exec_all ss locals
    exec (clear n) locals = give (Normal (with_local n None locals))
    exec (keep place n e) locals = do
      x ← eval s locals e
      pay 1 place
      give (Normal (with_local n x locals))
    exec (store place n steps e) locals = do
      indexes ← eval_indexes s locals steps
      x ← eval s locals e
      pay 1 place
      assigned s.counting (stored (slot_at locals n) (map bare steps) indexes x) place n locals
    exec (evaluate place e) locals = do
      x ← eval s locals e
      if_defined x (idle locals) (passed_over s.counting place locals)
    exec (branch place e first second) locals = do
      x ← eval s locals e
      pay 1 place
      chosen x (exec first locals) (exec second locals) (passed_over s.counting place locals)
    exec (while place e body) locals = while_ticks (turns s.counting place (λ l. eval s l e) idle (exec body)) locals
    exec (do_while place body e) locals =
        while_ticks (turns_after s.counting place (exec body) (λ l. eval s l e)) locals
    exec (for_loop place e between body) locals =
        while_ticks (turns s.counting place (test_of s e) (exec between) (exec body)) locals
    exec break locals = give (Breaks locals)
    exec continue locals = give (Continues locals)
    exec (return_value place e) locals = do
      x ← eval s locals e
      pay 1 place
      give (Returns x)
    exec (end_record place) locals = do
      pay 1 place
      give (Returns None)
    exec (emit place table es e w) locals = do
      indexes ← eval_all s locals es
      value ← eval s locals e
      weight ← eval_if_some s locals w
      emits s.counting place table (record { indexes = indexes; value = value; weight = weight }) locals
    exec (when place vs c body) locals = exec_when place (λ l. eval s l c) (exec body) (map variable_of vs) locals

    -- what statements do, one after the other
    pub exec_all : Stms → Running
    exec_all no_stms locals = give (Normal locals)
    exec_all (with_stm first rest) locals = do
      ending ← exec first locals
      then_run ending (exec_all rest)

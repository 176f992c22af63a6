-- Calls that are made.
use Rattle.std.proofs.Common.{◌≡◌, ◌∙◌, suc, ◌-◌, ◌<◌, ◌≤◌, List, [], ◌∷◌, ◌++◌, length, map, drop, take, is_some, Some, None, true, refl, ap, cond}
use Rattle.std.specs.List.{list_all}
use Rattle.std.proofs.lemmas.Bool.{lt-ltb}
use Rattle.std.proofs.lemmas.List.{length-reverse, length-take-le}
use Rattle.sz_types.specs.declared.place.Place.{Place}
use Rattle.sz_instr.specs.declared.routine.Routine.{Routine}
use Rattle.sz_world_rules.specs.World.{calls_too_deep}
use Rattle.sz_world_rules.specs.Slots.{Slot, all_defined, undefined_slots, fresh}
use Rattle.sz_instr.specs.States.{State, Goes, popped, faults}
use Rattle.sz_instr.specs.Rows.{call_routine, call_with, enter}
use Rattle.sz_machine_cells.specs.Results.{defined_of}
use Rattle.sz_machine_cells.proofs.ForCallers.{are_all, all_told}

-- slots that are all defined are those of their values
of_values : (xs : List Slot) → list_all is_some xs ≡ true → map (λ d. Some d) (defined_of xs) ≡ xs
of_values [] h = refl
of_values (None ∷ xs) h = absurd (cc)
of_values (Some d ∷ xs) h = ap (λ ys. Some d ∷ ys) (of_values xs h)

count_of_values : (xs : List Slot) → list_all is_some xs ≡ true → length (defined_of xs) ≡ length xs
count_of_values [] h = refl
count_of_values (None ∷ xs) h = absurd (cc)
count_of_values (Some d ∷ xs) h = ap suc (count_of_values xs h)

-- what a call with defined arguments leads to, while another may be opened
pub call_enters : (r : Routine) (place : Place) (s : State) → r.params ≤ length s.stack
    → is_some (all_defined (popped r.params s.stack)) ≡ true
    → length s.callers < 128 → call_routine (Some r) place s ≡ Goes (record s {
      at = r.entry;
      stack = drop r.params s.stack;
      locals = popped r.params s.stack ++ undefined_slots (r.locals - r.params);
      lists = [];
      callers = record { locals = s.locals; back = suc s.at; lists = s.lists } ∷ s.callers;
    })
call_enters r place s within defined room =
    let xs = popped r.params s.stack in
    let all = all_told xs ∙ defined in
    let count : length (defined_of xs) ≡ r.params =
    count_of_values xs all ∙ length-reverse (take r.params s.stack) ∙ length-take-le r.params s.stack within in
    let locals : fresh r.locals (defined_of xs) ≡ xs ++ undefined_slots (r.locals - r.params) =
    λ i. of_values xs all i ++ undefined_slots (r.locals - count i) in
    ap (λ o. call_with o r place s (drop r.params s.stack)) (are_all xs all)
    ∙ ap (λ b. cond b (enter r (defined_of xs) s (drop r.params s.stack)) (faults calls_too_deep place))
    (lt-ltb (length s.callers) 128 room)
    ∙ ap (λ l. Goes (record s {
      at = r.entry;
      stack = drop r.params s.stack;
      locals = l;
      lists = [];
      callers = record { locals = s.locals; back = suc s.at; lists = s.lists } ∷ s.callers;
    })) locals

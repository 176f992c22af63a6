-- Calls: the arguments, a tick, and what the machine's call does; one with an undefined argument isn't made.
use Rattle.std.proofs.Common.{◌≡◌, ◌∙◌, ℕ, suc, ◌+◌, ◌≤◌, ◌<◌, List, ◌∷◌, length, true, Option, Some, None, IfSome, refl, sym, ap, subst, arith, drop}
use Rattle.std.specs.Prelude.{slice_get}
use Rattle.sz_types.specs.Data.{Shape}
use Rattle.sz_types.specs.declared.place.Place.{Place}
use Rattle.sz_value.specs.Data.{Datum}
use Rattle.sz_types.specs.Types.{have_types}
use Rattle.sz_core.specs.Programs.{Signature}
use Rattle.sz_instr.specs.declared.instr.Instr.TheVariants.{Call}
use Rattle.sz_instr.specs.declared.line.Line.{Line}
use Rattle.sz_instr.specs.declared.routine.Routine.{Routine}
use Rattle.sz_instr.specs.declared.code.Code.{Code}
use Rattle.sz_world_rules.specs.World.{World, Given, Gives, Stops, Doing, and_then, paid, spend, most_open_calls}
use Rattle.sz_world_rules.specs.Slots.{Slot, all_defined}
use Rattle.sz_world_rules.specs.Typed.{AllFit}
use Rattle.sz_mean.specs.Expressions.{Calls, called}
use Rattle.sz_instr.specs.States.{State, After}
use Rattle.sz_instr.specs.Rows.{act, call_with, call_routine}
use Rattle.sz_instr.specs.Covering.{HasArguments}
use Rattle.sz_instr.specs.Runs.{ComesTo}
use Rattle.sz_gen_rules.specs.Tables.{line}
use Rattle.sz_gen_rules.specs.ExpressionCode.{closed}
use Rattle.sz_gen_rules.specs.Runs.{with_all, NextComes, AfterEval, AfterAll, CallsBelow, HasAt}
use Rattle.sz_gen_rules.proofs.Steps.{at_line, after_all, after_pay, line_after, end_after}
use Rattle.sz_gen_rules.proofs.Stacks.{length-all_fit, enough, pops, leaves_below}
use Rattle.sz_gen_rules.proofs.Types.{defined_have, have_all_fit}

module _ (code : Code) (signatures : List Signature) (statics : List Slot) (room limit : ℕ) (calls : Calls)
    (below : CallsBelow code signatures statics room limit calls) where
  -- the call with its arguments, or undefined
  made_or_not : (f : ℕ) (g : Signature) (r : Routine) (place : Place) (s : State) (at end : ℕ) (stack : List Slot)
      (w : World) (x : After) → slice_get signatures f ≡ Some g → slice_get code.functions f ≡ Some r
      → s.statics ≡ statics → length s.callers + room ≡ most_open_calls
      → w.left < limit → w.left ≤ s.world.left → suc at ≡ end → (o : Option (List Datum))
      → IfSome o (λ ds. have_types ds g.parameters ≡ true)
      → AfterEval code g.result s end x (called calls f place o w)
      → NextComes code (call_with o r place (record s { at = at; stack = stack; world = w }) s.stack) x
  made_or_not f g r place s at end stack w x of found same deep few less ends None typed h =
      subst (λ n. ComesTo code (record s { at = n; stack = None ∷ s.stack; world = w }) x) (sym ends)
      (h (record { left = less; typed = tt }))
  made_or_not f g r place s at end stack w x of found same deep few less ends (Some ds) typed h =
      below.runs f g r place ds (record s { at = at; stack = stack; world = w }) s.stack x of found
      (have_all_fit ds g.parameters typed) same deep few (from_called (calls f place ds w) h)
    where
      from_called : (v : Given Slot) → AfterEval code g.result s end x v
          → AfterEval code g.result (record s { at = at; world = w }) (suc at) x v
      from_called (Stops fault) h1 = h1
      from_called (Gives y w1) h1 = λ kept.
          subst (λ n. ComesTo code (record s { at = n; stack = y ∷ s.stack; world = w1 }) x) (sym ends)
          (h1 (record { left = omega (arith, kept.left, less); typed = kept.typed }))

  -- the row of a call, whose arguments lie on the stack
  call_row : (f : ℕ) (r : Routine) (place : Place) (s : State) (ys stack : List Slot) (x : After)
      → slice_get code.functions f ≡ Some r → length ys ≡ r.params
      → NextComes code (call_with (all_defined ys) r place (record s { stack = with_all ys stack }) stack) x
      → NextComes code (act code (Call f) place (record s { stack = with_all ys stack })) x
  call_row f r place s ys stack x found many h =
      let s1 : State = record s { stack = with_all ys stack } in
      subst (λ o. NextComes code (call_routine o place s1) x) (sym found)
      (subst (λ l. NextComes code (call_with (all_defined l) r place s1 (drop r.params s1.stack)) x)
      (sym (pops r.params ys stack many)) (subst (λ l. NextComes code (call_with (all_defined ys) r place s1 l) x)
      (sym (leaves_below r.params ys stack many)) h))

  pub call_runs : (t : Shape) (f : ℕ) (g : Signature) (place : Place) (s : State) (end : ℕ) (x : After)
      (ts : List Shape) (ca : List Line)
      (a : Doing (List Slot)) → slice_get signatures f ≡ Some g → ts ≡ g.parameters → t ≡ g.result
      → s.statics ≡ statics → length s.callers + room ≡ most_open_calls → s.world.left ≤ limit
      → HasAt code.lines s.at (closed ca (Call f) place) → s.at + length (closed ca (Call f) place) ≡ end
      → (AfterAll code ts s (s.at + length ca) x (a s.world) → ComesTo code s x)
      → AfterEval code t s end x
      (and_then (a s.world) (λ ys w. and_then (paid place (spend 1 w)) (λ _. called calls f place (all_defined ys))))
      → ComesTo code s x
  call_runs t f g place s end x ts ca a of takes gives same deep low has ends run h =
      let at1 = s.at + length ca in
      let known = below.known f g of in
      let r = known.0 in
      let l = line (Call f) 1 place in
      run (after_all code t ts s s end at1 x
      (λ ys w. and_then (paid place (spend 1 w)) (λ _. called calls f place (all_defined ys))) (λ ys w kept h1.
      let s1 : State = record s { at = at1; stack = with_all ys s.stack; world = w } in
      let many : length ys ≡ r.params = length-all_fit ys ts kept.typed ∙ ap length takes ∙ sym known.2 in
      at_line code s1 l x (line_after code s.at ca (Call f) place has)
      (subst (λ o. HasArguments o s1.stack) (sym known.1) (enough r.params ys s.stack many))
      (after_pay code t s s1 end x l (called calls f place (all_defined ys)) 1 (spend 1 w) refl (λ w1 left h2.
      call_row f r place (record s { at = at1; world = w1 }) ys s.stack x known.1 many
      (made_or_not f g r place s at1 end (with_all ys s.stack) w1 x of known.1 same deep
      (omega (arith, left, kept.left, low))
      (omega (arith, left, kept.left)) (end_after s.at end ca (Call f) place ends) (all_defined ys)
      (defined_have ys g.parameters (subst (AllFit ys) takes kept.typed))
      (subst (λ u. AfterEval code u s end x (called calls f place (all_defined ys) w1)) gives h2))) h1)) (a s.world) h)

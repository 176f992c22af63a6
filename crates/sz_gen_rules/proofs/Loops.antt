-- The code of loops does what their turns mean, over the code of their tests and bodies.
use Rattle.std.proofs.Common.{◌≡◌, ℕ, zero, suc, ◌+◌, ◌<◌, ◌≤◌, List, [], ◌∷◌, length, Option, Some, None, IfSome, refl, sym, subst, arith, length-append}
use Rattle.std.specs.Prelude.{slice_get}
use Rattle.sz_types.specs.Data.{Shape}
use Rattle.sz_types.specs.declared.place.Place.{Place}
use Rattle.sz_core.specs.Nodes.{Node, type_of}
use Rattle.sz_core.specs.Typing.{Sight}
use Rattle.sz_core.specs.Sound.{Around, IsTest}
use Rattle.sz_core.specs.Sound.{in_loop as inner}
use Rattle.sz_instr.specs.declared.instr.Instr.TheVariants.{Tick, Test}
use Rattle.sz_instr.specs.declared.code.Code.{Code}
use Rattle.sz_world_rules.specs.World.{World, Doing, ◌>>◌, and_then, give, pay, spend}
use Rattle.sz_world_rules.specs.Slots.{Slot}
use Rattle.sz_world_rules.specs.Typed.{Fits, AllFit}
use Rattle.sz_mean.specs.Expressions.{Setting, eval}
use Rattle.sz_mean.specs.Endings.{Ending, Normal, Running, then_run, passed_over, chosen, turns, turns_after}
use Rattle.sz_mean.specs.Statements.{test_of}
use Rattle.sz_instr.specs.States.{State, After, Goes}
use Rattle.sz_instr.specs.Rows.{pass_over}
use Rattle.sz_instr.specs.Runs.{ComesTo}
use Rattle.sz_gen_rules.specs.Tables.{tables_in, line}
use Rattle.sz_gen_rules.specs.ExpressionCode.{expression_code}
use Rattle.sz_gen_rules.specs.Named.{HasNames}
use Rattle.sz_gen_rules.specs.Runs.{CallsBelow, AllKept, HasAt}
use Rattle.sz_gen_rules.proofs.Steps.{has_front, has_back, at_line}
use Rattle.sz_gen_rules.specs.FreeLines.{goes}
use Rattle.sz_gen_rules.specs.StatementCode.{Exits, in_loop, test_code}
use Rattle.sz_gen_rules.specs.Backward.{seeing, AfterExec, IsFixed}
use Rattle.sz_gen_rules.proofs.Parts.{expression_runs}
use Rattle.sz_gen_rules.proofs.Outcomes.{Counts, passes_over, after_value, pays_for, chosen_by, after_then, after_body}

-- from a test, the run comes to x from what is done where it is true and where it is false, for which there are fewer
-- ticks; where it is undefined the code goes to where the end of the statement is reached
abbrev pub Asks : Code → Option ℕ → Around → List Shape → Exits → State → After → (end start at1 away past : ℕ)
    → Place → (List Slot → Doing Slot) → Type 0
Asks code counting a types out s x end start at1 away past p test =
    (l : List Slot) (w : World) (first second : Doing Ending) → AllFit l types
    → ((w2 : World) → w2.left + 1 ≤ w.left → AfterExec code a types out s end x (first w2)
    → ComesTo code (record s { at = at1; locals = l; world = w2 }) x)
    → ((w2 : World) → w2.left + 1 ≤ w.left → AfterExec code a types out s end x (second w2)
    → ComesTo code (record s { at = away; locals = l; world = w2 }) x)
    → ((w2 : World) → ComesTo code (record s { at = end; locals = l; world = w2 }) x
    → ComesTo code (record s { at = past; locals = l; world = w2 }) x)
    → w.left ≤ s.world.left
    → AfterExec code a types out s end x
    (and_then (test l w) (λ v. pay 1 p >> chosen v first second (passed_over counting p l)))
    → ComesTo code (record s { at = start; locals = l; world = w }) x

module _ (code : Code) (g : Sight) (set : Setting) (room : ℕ)
    (below : (limit : ℕ) → CallsBelow code g.functions set.statics room limit set.calls)
    (counts : Counts code set.counting) (seen : Sight) (x : After) (a : Around) (out : Exits) where
  -- the code of a test
  pub test_runs : (e : Option Node) (p : Place) (s : State) (end start at1 away past : ℕ)
      → IfSome e (IsTest (seeing g seen)) → IfSome e (HasNames (tables_in code))
      → IsFixed g set room s.callers s.statics s.input
      → HasAt code.lines start (test_code (tables_in code) p e away past start)
      → start + length (test_code (tables_in code) p e away past start) ≡ at1
      → Asks code set.counting a g.locals out s x end start at1 away past p (test_of set e)
  test_runs None p s end start at1 away past sound of fixed has en l w first second fit one other reaches le0 h =
      let same : suc start ≡ at1 = omega (arith, en) in
      let s1 : State = record s { at = start; locals = l; world = w } in
      at_line code s1 (line Tick 1 p) x has.0 tt
      (pays_for code g.locals x a out s s1 end (line Tick 1 p) 1 first (spend 1 w) refl
      (λ w2 e2 h2. subst (λ k. ComesTo code (record s { at = k; locals = l; world = w2 }) x) (sym same)
      (one w2 (omega arith) h2)) h)
  test_runs (Some e) p s end start at1 away past sound of fixed has en l w first second fit one other reaches le0 h =
      let ce = expression_code (tables_in code) e start in
      let at0 = start + length ce in
      let t = line (Test away past) 1 p in
      let same : suc at0 ≡ at1 = omega (arith, en, length-append ce (t ∷ [])) in
      let s1 : State = record s { at = start; locals = l; world = w } in
      expression_runs code g set room below seen e s1 at0 x sound.0 of fit fixed
      (has_front code.lines start ce (t ∷ []) has) refl
      (after_value code g.locals x a out (type_of e) s s1 end at0 _ (λ v w1 k h1.
      let s2 : State = record s { at = at0; stack = v ∷ s.stack; locals = l; world = w1 } in
      let le = k.left in
      at_line code s2 t x
      (has_back code.lines start ce (t ∷ []) has).0 (subst (λ u. Fits v u) sound.1 k.typed, counts.can)
      (pays_for code g.locals x a out s s2 end t 1 _ (spend 1 w1) refl (λ w2 e2 h2.
      chosen_by code g.locals x a out s end w2 first second (passed_over set.counting p l)
      (Goes (record s { at = suc at0; locals = l; world = w2 })) (Goes (record s { at = away; locals = l; world = w2 }))
      (pass_over code.ignore p (record s { at = at0; stack = v ∷ s.stack; locals = l; world = w2 }) past s.stack)
      (λ h3. subst (λ k. ComesTo code (record s { at = k; locals = l; world = w2 }) x) (sym same)
      (one w2 (omega arith) h3)) (λ h3. other w2 (omega arith) h3) (λ h3. passes_over code g.locals x a out
      set.counting counts s end past at0 p (v ∷ s.stack) l w2 (omega arith) fit reaches h3) v h2) h1))
      (eval set l e w) h)

module _ (code : Code) (counting : Option ℕ) (types : List Shape) (x : After) (a : Around) (out : Exits) (s : State)
    (p : Place) (at0 end : ℕ)
    (leaves_loop : slice_get code.lines (at0 + 1) ≡ Some (goes end)) where
  -- `break` and the test lead past the loop
  breaks : (l : List Slot) (w : World) → ComesTo code (record s { at = end; locals = l; world = w }) x
      → ComesTo code (record s { at = at0 + 1; locals = l; world = w }) x
  breaks l w h = at_line code (record s { at = at0 + 1; locals = l; world = w }) (goes end) x leaves_loop tt h

  -- the turns of a loop that is tested before each, from its test on: more of them than ticks are left
  pub loop_turns : (b1 at1 at2 : ℕ) (test : List Slot → Doing Slot) (between body : Running)
      → slice_get code.lines b1 ≡ Some (line Tick 1 p) → slice_get code.lines at2 ≡ Some (goes (at0 + 2))
      → Asks code counting a types out s x end (suc b1) at1 (at0 + 1) (at0 + 1) p test
      → ((l : List Slot) (w : World) → AllFit l types
      → AfterExec code a types out (record s { at = at0 + 2; locals = l; world = w }) b1 x (between l w)
      → ComesTo code (record s { at = at0 + 2; locals = l; world = w }) x)
      → ((l : List Slot) (w : World) → AllFit l types → AfterExec code (inner a) types (in_loop out (at0 + 1) (at0 + 2))
      (record s { at = at1; locals = l; world = w }) at2 x (body l w)
      → ComesTo code (record s { at = at1; locals = l; world = w }) x)
      → (n : ℕ) (l : List Slot) (w : World) → w.left < n → w.left ≤ s.world.left → AllFit l types
      → AfterExec code a types out s end x (turns counting p test between body n l w)
      → ComesTo code (record s { at = suc b1; locals = l; world = w }) x
  loop_turns b1 at1 at2 test between body ticks returns asks between_runs body_runs zero l w lt le fit h =
      absurd (omega arith)
  loop_turns b1 at1 at2 test between body ticks returns asks between_runs body_runs (suc n) l w lt le fit h =
      asks l w _ _ fit (λ w2 le2 h2.
      body_runs l w2 fit (after_body code types x a out s end at2 at1 (at0 + 1) (at0 + 2) l w2 _ (omega arith)
      (λ l3 w3 k3 h3. at_line code (record s { at = at2; locals = l3; world = w3 }) (goes (at0 + 2)) x returns tt
      (step (λ l5 w5 le5 fit5 h5.
      loop_turns b1 at1 at2 test between body ticks returns asks between_runs body_runs n l5 w5 (omega arith)
      (omega arith) fit5 h5) w2 le2 l3 w3 k3 h3))
      breaks
      (step (λ l5 w5 le5 fit5 h5.
      loop_turns b1 at1 at2 test between body ticks returns asks between_runs body_runs n l5 w5 (omega arith)
      (omega arith) fit5 h5) w2 le2)
      (body l w2) h2))
      (λ w2 le2 h2. breaks l w2 (h2 (record { left = omega arith; typed = fit }))) (breaks l) le h
    where
      -- what is done between turns, and the loop return
      step : ((l5 : List Slot) (w5 : World) → w5.left + 1 ≤ w.left → AllFit l5 types
          → AfterExec code a types out s end x (turns counting p test between body n l5 w5)
          → ComesTo code (record s { at = suc b1; locals = l5; world = w5 }) x)
          → (w2 : World) → w2.left + 1 ≤ w.left → (l3 : List Slot) (w3 : World) → AllKept w2 types l3 w3
          → AfterExec code a types out s end x
          (and_then (between l3 w3) (λ e. then_run e (λ l4. pay 1 p >> turns counting p test between body n l4)))
          → ComesTo code (record s { at = at0 + 2; locals = l3; world = w3 }) x
      step next w2 le2 l3 w3 k3 h3 =
          let le3 = k3.left in
          between_runs l3 w3 k3.typed
          (after_then code types x a out s end b1 (at0 + 2) l3 w3 _ (omega arith) (λ l4 w4 k4 h4.
          let s4 : State = record s { at = b1; locals = l4; world = w4 } in
          let le4 = k4.left in
          at_line code s4 (line Tick 1 p) x ticks tt
          (pays_for code types x a out s s4 end (line Tick 1 p) 1 _ (spend 1 w4) refl
          (λ w5 e5 h5. next l4 w5 (omega arith) k4.typed h5) h4)) (between l3 w3) h3)

  -- the turns of a loop that is tested after each, from its body on
  pub after_turns : (start at1 : ℕ) (body : Running) (test : List Slot → Doing Slot)
      → slice_get code.lines (at0 + 2) ≡ Some (goes start) → slice_get code.lines at1 ≡ Some (line Tick 1 p)
      → slice_get code.lines (suc at1) ≡ Some (goes (at0 + 3))
      → Asks code counting a types out s x end start at1 (at0 + 1) (at0 + 1) p test
      → ((l : List Slot) (w : World) → AllFit l types → AfterExec code (inner a) types (in_loop out (at0 + 1) (at0 + 2))
      (record s { at = at0 + 3; locals = l; world = w }) start x (body l w)
      → ComesTo code (record s { at = at0 + 3; locals = l; world = w }) x)
      → (n : ℕ) (l : List Slot) (w : World) → w.left < n → w.left ≤ s.world.left → AllFit l types
      → AfterExec code a types out s end x (turns_after counting p body test n l w)
      → ComesTo code (record s { at = at0 + 3; locals = l; world = w }) x
  after_turns start at1 body test continues ticks returns asks body_runs zero l w lt le fit h = absurd (omega arith)
  after_turns start at1 body test continues ticks returns asks body_runs (suc n) l w lt le fit h =
      body_runs l w fit (after_body code types x a out s end start (at0 + 3) (at0 + 1) (at0 + 2) l w _ le
      (tested (λ l5 w5 le5 fit5 h5. after_turns start at1 body test continues ticks returns asks body_runs n l5 w5
      (omega arith) (omega arith) fit5 h5)) breaks
      (λ l3 w3 k3 h3. at_line code (record s { at = at0 + 2; locals = l3; world = w3 }) (goes start) x continues tt
      (tested (λ l5 w5 le5 fit5 h5.
      after_turns start at1 body test continues ticks returns asks body_runs n l5 w5 (omega arith)
      (omega arith) fit5 h5) l3 w3 k3 h3))
      (body l w) h)
    where
      -- the test and the loop return
      tested : ((l5 : List Slot) (w5 : World) → w5.left + 1 ≤ w.left → AllFit l5 types
          → AfterExec code a types out s end x (turns_after counting p body test n l5 w5)
          → ComesTo code (record s { at = at0 + 3; locals = l5; world = w5 }) x)
          → (l3 : List Slot) (w3 : World) → AllKept w types l3 w3
          → AfterExec code a types out s end x
          (and_then (test l3 w3) (λ v. pay 1 p >> chosen v (pay 1 p >> turns_after counting p body test n l3)
          (give (Normal l3)) (passed_over counting p l3)))
          → ComesTo code (record s { at = start; locals = l3; world = w3 }) x
      tested next l3 w3 k3 h3 =
          let le3 = k3.left in
          asks l3 w3 _ _ k3.typed (λ w4 le4 h4.
          let s4 : State = record s { at = at1; locals = l3; world = w4 } in
          at_line code s4 (line Tick 1 p) x ticks tt
          (pays_for code types x a out s s4 end (line Tick 1 p) 1 _ (spend 1 w4) refl
          (λ w5 e5 h5. at_line code (record s { at = suc at1; locals = l3; world = w5 }) (goes (at0 + 3)) x returns tt
          (next l3 w5 (omega arith) k3.typed h5)) h4))
          (λ w4 le4 h4. breaks l3 w4 (h4 (record { left = omega arith; typed = k3.typed }))) (breaks l3)
          (omega (arith, le, le3)) h3

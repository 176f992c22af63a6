-- The code of a loop does what the loop means, over what its test, its body and what is done between turns do.
use Rattle.std.proofs.Common.{◌≡◌, ℕ, suc, ◌+◌, List, [], ◌∷◌, ◌++◌, length, Option, Some, IfSome, refl, subst, arith, length-append}
use Rattle.std.specs.Prelude.{slice_get}
use Rattle.sz_types.specs.Data.{Shape}
use Rattle.sz_types.specs.declared.place.Place.{Place}
use Rattle.sz_core.specs.Nodes.{Node}
use Rattle.sz_core.specs.Typing.{Sight}
use Rattle.sz_core.specs.Sound.{Around, IsTest}
use Rattle.sz_core.specs.Sound.{in_loop as inner}
use Rattle.sz_instr.specs.declared.instr.Instr.TheVariants.{Tick}
use Rattle.sz_instr.specs.declared.line.Line.{Line}
use Rattle.sz_instr.specs.declared.code.Code.{Code}
use Rattle.sz_world_rules.specs.World.{World}
use Rattle.sz_world_rules.specs.Slots.{Slot}
use Rattle.sz_world_rules.specs.Typed.{AllFit}
use Rattle.sz_mean.specs.Expressions.{Setting}
use Rattle.sz_mean.specs.Endings.{Running, turns, turns_after}
use Rattle.sz_mean.specs.Statements.{test_of, while_ticks}
use Rattle.sz_instr.specs.States.{State, After}
use Rattle.sz_instr.specs.Runs.{ComesTo}
use Rattle.sz_gen_rules.specs.Tables.{tables_in, line}
use Rattle.sz_gen_rules.specs.Named.{HasNames}
use Rattle.sz_gen_rules.specs.Runs.{CallsBelow, HasAt}
use Rattle.sz_gen_rules.proofs.Steps.{has_front, has_back, at_line}
use Rattle.sz_gen_rules.specs.FreeLines.{goes}
use Rattle.sz_gen_rules.specs.StatementCode.{Exits, in_loop, loop_test_code, loop_code, loop_after_code}
use Rattle.sz_gen_rules.specs.Backward.{seeing, AfterExec, IsFixed}
use Rattle.sz_gen_rules.proofs.Outcomes.{Counts}
use Rattle.sz_gen_rules.proofs.Loops.{test_runs, loop_turns, after_turns}

-- code does what this means with locals of their types, wherever it stands in a routine
abbrev pub BodyRuns : Code → Around → List Shape → Exits → State → After → (ℕ → List Line) → Running → Type 0
BodyRuns code a types out s x lines body =
    (at end : ℕ) (l : List Slot) (w : World) → AllFit l types → HasAt code.lines at (lines at)
    → at + length (lines at) ≡ end → AfterExec code a types out (record s { at = at; locals = l; world = w }) end x
    (body l w) → ComesTo code (record s { at = at; locals = l; world = w }) x

module _ (code : Code) (g : Sight) (set : Setting) (room : ℕ)
    (below : (limit : ℕ) → CallsBelow code g.functions set.statics room limit set.calls)
    (counts : Counts code set.counting) (seen : Sight) (x : After) (a : Around) (out : Exits) (s : State)
    (end : ℕ) (p : Place) (e : Option Node) (sound : IfSome e (IsTest (seeing g seen)))
    (of : IfSome e (HasNames (tables_in code))) (fit : AllFit s.locals g.locals)
    (fixed : IsFixed g set room s.callers s.statics s.input) where
  pub loop_runs : (between_code body_code : ℕ → List Line) (between body : Running)
      → HasAt code.lines s.at (loop_code p between_code (loop_test_code (tables_in code) p e s.at) body_code s.at)
      → s.at + length (loop_code p between_code (loop_test_code (tables_in code) p e s.at) body_code s.at) ≡ end
      → BodyRuns code a g.locals out s x between_code between
      → BodyRuns code (inner a) g.locals (in_loop out (s.at + 1) (s.at + 2)) s x body_code body
      → AfterExec code a g.locals out s end x
      (while_ticks (turns set.counting p (test_of set e) between body) s.locals s.world) → ComesTo code s x
  loop_runs between_code body_code between body has0 en0 between_runs body_runs h =
      let lines = code.lines in
      let at0 = s.at in
      let stepped = between_code (at0 + 2) in
      let b1 = at0 + 2 + length stepped in
      let test : ℕ → List Line = loop_test_code (tables_in code) p e at0 in
      let whole : ℕ → List Line =
      λ k. goes k ∷ goes (k + length (test k) + length (body_code (k + length (test k))) + 1)
      ∷ (stepped ++ line Tick 1 p ∷ (test k ++ (body_code (k + length (test k)) ++ goes (at0 + 2) ∷ []))) in
      let same : b1 + 1 ≡ suc b1 = omega arith in
      let has : HasAt lines at0 (whole (suc b1)) = subst (λ k. HasAt lines at0 (whole k)) same has0 in
      let en : at0 + length (whole (suc b1)) ≡ end = subst (λ k. at0 + length (whole k) ≡ end) same en0 in
      let asked = test (suc b1) in
      let at1 = suc b1 + length asked in
      let turn = body_code at1 in
      let at2 = at1 + length turn in
      let tick = line Tick 1 p in
      let back = goes (at0 + 2) in
      let len : at1 + length turn + 1 ≡ end = omega (
        arith,
        en,
        length-append stepped (tick ∷ (asked ++ (turn ++ back ∷ []))),
        length-append asked
            (turn ++ back ∷ []),
        length-append turn (back ∷ []),
      ) in
      let one : suc at0 ≡ at0 + 1 = omega arith in
      let two : suc (suc at0) ≡ at0 + 2 = omega arith in
      let f1 : slice_get lines (at0 + 1) ≡ Some (goes end) =
      subst (λ k. slice_get lines k ≡ Some (goes end)) one
      (subst (λ k. slice_get lines (suc at0) ≡ Some (goes k)) len has.1.0) in
      let has2 : HasAt lines (at0 + 2) (stepped ++ tick ∷ (asked ++ (turn ++ back ∷ []))) =
      subst (λ k. HasAt lines k (stepped ++ tick ∷ (asked ++ (turn ++ back ∷ [])))) two has.1.1 in
      let has3 = has_back lines (at0 + 2) stepped (tick ∷ (asked ++ (turn ++ back ∷ []))) has2 in
      let has4 = has_back lines (suc b1) asked (turn ++ back ∷ []) has3.1 in
      at_line code s (goes (suc b1)) x has.0 tt
      (loop_turns code set.counting g.locals x a out s p at0 end f1 b1 at1 at2
      (test_of set e) between body has3.0 (has_back lines at1 turn (back ∷ []) has4).0
      (test_runs code g set room below counts seen x a out e p s end (suc b1) at1 (at0 + 1) (at0 + 1) sound of fixed
      (has_front lines (suc b1) asked (turn ++ back ∷ []) has3.1) refl)
      (λ l w fit1 h1. between_runs (at0 + 2) b1 l w fit1
      (has_front lines (at0 + 2) stepped (tick ∷ (asked ++ (turn ++ back ∷ []))) has2) refl h1)
      (λ l w fit1 h1. body_runs at1 at2 l w fit1 (has_front lines at1 turn (back ∷ []) has4) refl h1)
      (suc s.world.left) s.locals s.world (omega arith) (omega arith) fit h)

  pub loop_after_runs : (body_code : ℕ → List Line) (body : Running)
      → HasAt code.lines s.at (loop_after_code p body_code (loop_test_code (tables_in code) p e s.at) s.at)
      → s.at + length (loop_after_code p body_code (loop_test_code (tables_in code) p e s.at) s.at) ≡ end
      → BodyRuns code (inner a) g.locals (in_loop out (s.at + 1) (s.at + 2)) s x body_code body
      → AfterExec code a g.locals out s end x
      (while_ticks (turns_after set.counting p body (test_of set e)) s.locals s.world) → ComesTo code s x
  loop_after_runs body_code body has en body_runs h =
      let lines = code.lines in
      let at0 = s.at in
      let turn = body_code (at0 + 3) in
      let start = at0 + 3 + length turn in
      let asked = loop_test_code (tables_in code) p e at0 start in
      let at1 = start + length asked in
      let tick = line Tick 1 p in
      let back = goes (at0 + 3) in
      let len : at1 + 2 ≡ end =
      omega (arith, en, length-append turn (asked ++ tick ∷ back ∷ []), length-append asked (tick ∷ back ∷ [])) in
      let one : suc at0 ≡ at0 + 1 = omega arith in
      let two : suc (suc at0) ≡ at0 + 2 = omega arith in
      let three : suc (suc (suc at0)) ≡ at0 + 3 = omega arith in
      let f1 : slice_get lines (at0 + 1) ≡ Some (goes end) =
      subst (λ k. slice_get lines k ≡ Some (goes end)) one
      (subst (λ k. slice_get lines (suc at0) ≡ Some (goes k)) len has.1.0) in
      let f2 : slice_get lines (at0 + 2) ≡ Some (goes start) =
      subst (λ k. slice_get lines k ≡ Some (goes start)) two has.1.1.0 in
      let has3 : HasAt lines (at0 + 3) (turn ++ (asked ++ tick ∷ back ∷ [])) = subst
      (λ k. HasAt lines k (turn ++ (asked ++ tick ∷ back ∷ []))) three has.1.1.1 in
      let has4 = has_back lines (at0 + 3) turn (asked ++ tick ∷ back ∷ []) has3 in
      let has5 = has_back lines start asked (tick ∷ back ∷ []) has4 in
      at_line code s (goes (at0 + 3)) x has.0 tt
      (after_turns code set.counting g.locals x a out s p at0 end f1 start at1 body (test_of set e) f2 has5.0 has5.1.0
      (test_runs code g set room below counts seen x a out e p s end start at1 (at0 + 1) (at0 + 1) sound of fixed
      (has_front lines start asked (tick ∷ back ∷ []) has4) refl)
      (λ l w fit1 h1. body_runs (at0 + 3) start l w fit1
      (has_front lines (at0 + 3) turn (asked ++ tick ∷ back ∷ []) has3) refl h1)
      (suc s.world.left) s.locals s.world (omega arith) (omega arith) fit h)

-- `&&` and `||`: the left operand decides, or the right one is looked at; then the whole takes its tick.
use Rattle.std.proofs.Common.{◌≡◌, ◌∙◌, ℕ, suc, ◌+◌, ◌≤◌, List, [], ◌∷◌, ◌++◌, length, true, false, Some, refl, sym, subst, arith, length-append}
use Rattle.sz_types.specs.Data.{Shape}
use Rattle.sz_types.specs.declared.place.Place.{Place}
use Rattle.sz_value.specs.Data.{truth}
use Rattle.sz_instr.specs.declared.instr.Instr.{Instr}
use Rattle.sz_instr.specs.declared.instr.Instr.TheVariants.{Tick, AndTest, OrTest}
use Rattle.sz_instr.specs.declared.line.Line.{Line}
use Rattle.sz_instr.specs.declared.code.Code.{Code}
use Rattle.sz_world_rules.specs.World.{World, Doing, and_then, give, spend}
use Rattle.sz_world_rules.specs.Slots.{Slot}
use Rattle.sz_world_rules.specs.Typed.{Fits}
use Rattle.sz_world_rules.specs.Ticks.{no_weight}
use Rattle.sz_mean.specs.Expressions.{if_true, if_false, results}
use Rattle.sz_instr.specs.States.{State, After}
use Rattle.sz_instr.specs.Rows.{act}
use Rattle.sz_instr.specs.Covering.{Covers}
use Rattle.sz_instr.specs.Runs.{charge_of, charged, does, ComesTo}
use Rattle.sz_gen_rules.specs.Tables.{line}
use Rattle.sz_gen_rules.specs.ExpressionCode.{decided}
use Rattle.sz_gen_rules.specs.Runs.{NextComes, AfterEval, HasAt}
use Rattle.sz_gen_rules.proofs.Steps.{has_back, at_line, after_first, line_after, last_line}

-- what a test does with the left operand: what holds of the meaning, which has the right operand or the left one,
-- goes on after the test without the left operand, or where the test leads to with it
pub record Chooses (code : Code) (test : ℕ → Instr) (choice : Slot → Doing Slot → Doing Slot) : Type 1 where
  pub covers : (to : ℕ) (y : Slot) (s : State) → Fits y Shape.truth
      → Covers code (test to) (record s { stack = y ∷ s.stack })
  pub free : (to : ℕ) (s : State) → charge_of code 0 (test to) s ≡ 0
  pub acts : (to : ℕ) (place : Place) (y : Slot) (s : State) (x : After) (right : Doing Slot) (P : Doing Slot → Type 0)
      → (P right → ComesTo code (record s { at = suc s.at }) x)
      → (P (give y) → ComesTo code (record s { at = to; stack = y ∷ s.stack }) x)
      → P (choice y right) → NextComes code (act code (test to) place (record s { stack = y ∷ s.stack })) x

module _ (code : Code) where
  if_true_acts : (to : ℕ) (place : Place) (y : Slot) (s : State) (x : After) (right : Doing Slot)
      (P : Doing Slot → Type 0) → (P right → ComesTo code (record s { at = suc s.at }) x)
      → (P (give y) → ComesTo code (record s { at = to; stack = y ∷ s.stack }) x)
      → P (if_true y right) → NextComes code (act code (AndTest to) place (record s { stack = y ∷ s.stack })) x
  if_true_acts to place (Some (truth true)) s x right P on off h = on h
  if_true_acts to place y s x right P on off h = off h

  if_false_acts : (to : ℕ) (place : Place) (y : Slot) (s : State) (x : After) (right : Doing Slot)
      (P : Doing Slot → Type 0) → (P right → ComesTo code (record s { at = suc s.at }) x)
      → (P (give y) → ComesTo code (record s { at = to; stack = y ∷ s.stack }) x)
      → P (if_false y right) → NextComes code (act code (OrTest to) place (record s { stack = y ∷ s.stack })) x
  if_false_acts to place (Some (truth false)) s x right P on off h = on h
  if_false_acts to place y s x right P on off h = off h

  pub and_chooses : Chooses code AndTest if_true
  and_chooses = record { covers = λ to y s fits. fits; free = λ to s. refl; acts = if_true_acts }

  pub or_chooses : Chooses code OrTest if_false
  or_chooses = record { covers = λ to y s fits. fits; free = λ to s. refl; acts = if_false_acts }

  pub choice_runs : (test : ℕ → Instr) (choice : Slot → Doing Slot → Doing Slot) → Chooses code test choice
      → (t u v : Shape) (place : Place) (s : State) (end : ℕ) (x : After) (ca : List Line) (cb : ℕ → List Line)
      (a b : Doing Slot) → t ≡ Shape.truth → u ≡ Shape.truth → v ≡ Shape.truth
      → HasAt code.lines s.at (ca ++ decided test place cb (s.at + length ca))
      → s.at + length (ca ++ decided test place cb (s.at + length ca)) ≡ end
      → (AfterEval code u s (s.at + length ca) x (a s.world) → ComesTo code s x)
      → ((w : World) → w.left ≤ s.world.left
      → AfterEval code v (record s { at = suc (s.at + length ca); world = w })
      (suc (s.at + length ca) + length (cb (suc (s.at + length ca)))) x (b w)
      → ComesTo code (record s { at = suc (s.at + length ca); world = w }) x)
      → AfterEval code t s end x
      (and_then (a s.world) (λ y w. and_then (choice y b w) (λ z. results place no_weight z))) → ComesTo code s x
  choice_runs test choice chooses t u v place s end x ca cb a b is_t is_u is_v has ends run_a run_b h =
      let at1 = s.at + length ca in
      let right = cb (suc at1) in
      let to = suc at1 + length right in
      let has1 = has_back code.lines s.at ca (decided test place cb at1) has in
      let len : suc to ≡ end = omega
      (arith, ends, length-append ca (decided test place cb at1), length-append right (line Tick 1 place ∷ [])) in
      let tick : (y : Slot) (w : World) → Fits y t → w.left ≤ s.world.left
      → AfterEval code t s end x (results place no_weight y w)
      → ComesTo code (record s { at = to; stack = y ∷ s.stack; world = w }) x =
      (λ y w fits less h1. last_line code t s to (y ∷ s.stack) w end x Tick place no_weight y
      (line_after code (suc at1) right Tick place has1.1)
      (record { covered = tt; charge = refl; acts = λ w1 p. refl; typed = fits }) len less h1) in
      run_a (after_first code t u s s end at1 x
      (λ y w. and_then (choice y b w) (λ z. results place no_weight z)) (λ y w kept h1.
      let s1 : State = record s { at = at1; world = w } in
      at_line code (record s1 { stack = y ∷ s1.stack })
      (line (test to) 0 place) x has1.0 (chooses.covers to y s1 (subst (Fits y) is_u kept.typed))
      (free_line y s1 to (chooses.free to (record s1 { stack = y ∷ s1.stack }))
      (chooses.acts to place y s1 x b (λ d. AfterEval code t s end x (and_then (d w) (λ z. results place no_weight z)))
      (λ h2. run_b w kept.left
      (after_first code t v s (record s { at = suc at1; world = w }) end to x (λ z. results place no_weight z)
      (λ z w2 kept2 h3. tick z w2 (subst (Fits z) (is_v ∙ sym is_t) kept2.typed)
      (omega (arith, kept.left, kept2.left)) h3) (b w) h2))
      (λ h2. tick y w (subst (Fits y) (is_u ∙ sym is_t) kept.typed) kept.left h2) h1))) (a s.world) h)
    where
      free_line : (y : Slot) (s1 : State) (to : ℕ) → charge_of code 0 (test to) (record s1 { stack = y ∷ s1.stack }) ≡ 0
          → NextComes code (act code (test to) place (record s1 { stack = y ∷ s1.stack })) x
          → NextComes code (does code (line (test to) 0 place) (record s1 { stack = y ∷ s1.stack })) x
      free_line y s1 to free h2 =
          let s2 : State = record s1 { stack = y ∷ s1.stack } in
          subst (λ n. NextComes code (charged code (line (test to) 0 place) s2 (spend n s2.world)) x) (sym free) h2

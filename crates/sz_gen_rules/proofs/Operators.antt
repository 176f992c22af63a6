-- Expressions of one, two or three parts: the code of the parts, and one line that makes the slot of the whole of
-- theirs.
use Rattle.std.proofs.Common.{◌≡◌, ℕ, ◌+◌, ◌≤◌, List, ◌∷◌, ◌++◌, length, Some, refl, sym, subst, arith}
use Rattle.std.specs.Prelude.{slice_get}
use Rattle.sz_types.specs.Data.{Shape, FieldShapes}
use Rattle.sz_types.specs.Rows.{unary_row, binary_row, index_row, slice_row}
use Rattle.sz_types.specs.declared.place.Place.{Place}
use Rattle.sz_types.specs.declared.operator.UnOp.{UnOp}
use Rattle.sz_types.specs.declared.operator.BinOp.{BinOp}
use Rattle.sz_core.specs.Typing.{HasFields, field_types}
use Rattle.sz_instr.specs.declared.instr.Instr.{Instr}
use Rattle.sz_instr.specs.declared.instr.Instr.TheVariants.{Unary, Binary, Index, Slice, Field, Def}
use Rattle.sz_instr.specs.declared.line.Line.{Line}
use Rattle.sz_instr.specs.declared.code.Code.{Code}
use Rattle.sz_world_rules.specs.World.{World, Doing, and_then}
use Rattle.sz_world_rules.specs.Slots.{Slot}
use Rattle.sz_world_rules.specs.Typed.{Fits}
use Rattle.sz_world_rules.specs.Operations.{unary_of, binary_of, element_of, slice_of, part_of, definedness}
use Rattle.sz_world_rules.specs.Ticks.{result_weight, binary_weight}
use Rattle.sz_mean.specs.Expressions.{results}
use Rattle.sz_instr.specs.States.{State, After}
use Rattle.sz_instr.specs.Runs.{ComesTo}
use Rattle.sz_gen_rules.specs.ExpressionCode.{closed}
use Rattle.sz_gen_rules.specs.Runs.{AfterEval, HasAt}
use Rattle.sz_gen_rules.proofs.Steps.{after_first, LeavesSlot, line_after, end_after, last_line}
use Rattle.sz_gen_rules.proofs.Types.{unary_fits, binary_fits, element_fits, slice_fits, has_part, part_fits}

module _ (code : Code) (t : Shape) (i : Instr) (place : Place) (s : State) (end : ℕ) (x : After) where
  -- one part: its code, and the line
  pub one_runs : (u : Shape) (added : Slot → Slot → ℕ) (f : Slot → Slot) (ca : List Line) (a : Doing Slot)
      → ((y : Slot) (s1 : State) → Fits y u
      → LeavesSlot code i (record s1 { stack = y ∷ s1.stack }) s1.stack (added y (f y)) (f y) t)
      → HasAt code.lines s.at (closed ca i place) → s.at + length (closed ca i place) ≡ end
      → (AfterEval code u s (s.at + length ca) x (a s.world) → ComesTo code s x)
      → AfterEval code t s end x (and_then (a s.world) (λ y. results place (added y) (f y))) → ComesTo code s x
  one_runs u added f ca a row has ends run h =
      let at1 = s.at + length ca in
      run (after_first code t u s s end at1 x (λ y. results place (added y) (f y)) (λ y w kept h1.
      last_line code t s at1 (y ∷ s.stack) w end x i place (added y) (f y) (line_after code s.at ca i place has)
      (row y (record s { at = at1; world = w }) kept.typed)
      (end_after s.at end ca i place ends) kept.left h1) (a s.world) h)

  -- two parts
  pub two_runs : (u v : Shape) (added : Slot → ℕ) (f : Slot → Slot → Slot) (ca cb : List Line) (a b : Doing Slot)
      → ((y z : Slot) (s1 : State) → Fits y u → Fits z v
      → LeavesSlot code i (record s1 { stack = z ∷ y ∷ s1.stack }) s1.stack (added (f y z)) (f y z) t)
      → HasAt code.lines s.at (closed (ca ++ cb) i place) → s.at + length (closed (ca ++ cb) i place) ≡ end
      → (AfterEval code u s (s.at + length ca) x (a s.world) → ComesTo code s x)
      → ((y : Slot) (w : World) → w.left ≤ s.world.left
      → AfterEval code v (record s { at = s.at + length ca; stack = y ∷ s.stack; world = w })
      (s.at + length (ca ++ cb)) x (b w)
      → ComesTo code (record s { at = s.at + length ca; stack = y ∷ s.stack; world = w }) x)
      → AfterEval code t s end x (and_then (a s.world) (λ y w. and_then (b w) (λ z. results place added (f y z))))
      → ComesTo code s x
  two_runs u v added f ca cb a b row has ends run_a run_b h =
      let at1 = s.at + length ca in
      let at2 = s.at + length (ca ++ cb) in
      run_a
      (after_first code t u s s end at1 x (λ y w. and_then (b w) (λ z. results place added (f y z))) (λ y w kept h1.
      let s1 : State = record s { at = at1; stack = y ∷ s.stack; world = w } in
      run_b y w kept.left (after_first code t v s s1 end at2 x (λ z. results place added (f y z)) (λ z w2 kept2 h2.
      last_line code t s at2 (z ∷ y ∷ s.stack) w2 end x i place added (f y z)
      (line_after code s.at (ca ++ cb) i place has)
      (row y z (record s { at = at2; world = w2 }) kept.typed kept2.typed)
      (end_after s.at end (ca ++ cb) i place ends) (omega (arith, kept.left, kept2.left)) h2) (b w) h1)) (a s.world) h)

  -- three parts
  pub three_runs : (u v u3 : Shape) (added : Slot → ℕ) (f : Slot → Slot → Slot → Slot) (ca cb cc : List Line)
      (a b c : Doing Slot) → ((y z z3 : Slot) (s1 : State) → Fits y u → Fits z v → Fits z3 u3
      → LeavesSlot code i (record s1 { stack = z3 ∷ z ∷ y ∷ s1.stack }) s1.stack (added (f y z z3)) (f y z z3) t)
      → HasAt code.lines s.at (closed ((ca ++ cb) ++ cc) i place)
      → s.at + length (closed ((ca ++ cb) ++ cc) i place) ≡ end
      → (AfterEval code u s (s.at + length ca) x (a s.world) → ComesTo code s x)
      → ((y : Slot) (w : World) → w.left ≤ s.world.left
      → AfterEval code v (record s { at = s.at + length ca; stack = y ∷ s.stack; world = w })
      (s.at + length (ca ++ cb)) x (b w)
      → ComesTo code (record s { at = s.at + length ca; stack = y ∷ s.stack; world = w }) x)
      → ((y z : Slot) (w : World) → w.left ≤ s.world.left
      → AfterEval code u3 (record s { at = s.at + length (ca ++ cb); stack = z ∷ y ∷ s.stack; world = w })
      (s.at + length ((ca ++ cb) ++ cc)) x (c w)
      → ComesTo code (record s { at = s.at + length (ca ++ cb); stack = z ∷ y ∷ s.stack; world = w }) x)
      → AfterEval code t s end x
      (and_then (a s.world) (λ y w. and_then (b w) (λ z w2. and_then (c w2) (λ z3. results place added (f y z z3)))))
      → ComesTo code s x
  three_runs u v u3 added f ca cb cc a b c row has ends run_a run_b run_c h =
      let at1 = s.at + length ca in
      let at2 = s.at + length (ca ++ cb) in
      let at3 = s.at + length ((ca ++ cb) ++ cc) in
      run_a (after_first code t u s s end at1 x _ (λ y w kept h1.
      let s1 : State = record s { at = at1; stack = y ∷ s.stack; world = w } in
      run_b y w kept.left (after_first code t v s s1 end at2 x _ (λ z w2 kept2 h2.
      let s2 : State = record s { at = at2; stack = z ∷ y ∷ s.stack; world = w2 } in
      run_c y z w2 (omega (arith, kept.left, kept2.left))
      (after_first code t u3 s s2 end at3 x (λ z3. results place added (f y z z3)) (λ z3 w3 kept3 h3.
      last_line code t s at3 (z3 ∷ z ∷ y ∷ s.stack) w3 end x i place added (f y z z3)
      (line_after code s.at ((ca ++ cb) ++ cc) i place has)
      (row y z z3 (record s { at = at3; world = w3 }) kept.typed kept2.typed kept3.typed)
      (end_after s.at end ((ca ++ cb) ++ cc) i place ends) (omega (arith, kept.left, kept2.left, kept3.left)) h3)
      (c w2) h2)) (b w) h1)) (a s.world) h)

-- ---- the lines

module _ (code : Code) where
  pub unary_leaves : (op : UnOp) (t u : Shape) → unary_row op t ≡ Some u → (y : Slot) (s : State) → Fits y t
      → LeavesSlot code (Unary op) (record s { stack = y ∷ s.stack }) s.stack 0 (unary_of op y) u
  unary_leaves op t u row y s fits = record {
    covered = (t, u, row, fits);
    charge = refl;
    acts = λ w place. refl;
    typed = unary_fits op t u y row fits;
  }

  pub binary_leaves : (op : BinOp) (t v u : Shape) → binary_row op t v ≡ Some u → (y z : Slot) (s : State)
      → Fits y t → Fits z v → LeavesSlot code (Binary op)
      (record s { stack = z ∷ y ∷ s.stack }) s.stack (binary_weight op (binary_of op y z)) (binary_of op y z) u
  binary_leaves op t v u row y z s fits fits2 = record {
    covered = (t, v, u, row, fits, fits2);
    charge = refl;
    acts = λ w place. refl;
    typed = binary_fits op t v u y z row fits fits2;
  }

  pub element_leaves : (t v u : Shape) → index_row t v ≡ Some u → (y z : Slot) (s : State) → Fits y t → Fits z v
      → LeavesSlot code Index (record s { stack = z ∷ y ∷ s.stack }) s.stack 0 (element_of y z) u
  element_leaves t v u row y z s fits fits2 = record {
    covered = (t, v, u, row, fits, fits2);
    charge = refl;
    acts = λ w place. refl;
    typed = element_fits t v u y z row fits fits2;
  }

  pub slice_leaves : (t v v3 u : Shape) → slice_row t ≡ Some u → v ≡ Shape.int → v3 ≡ Shape.int
      → (y z z3 : Slot) (s : State) → Fits y t → Fits z v → Fits z3 v3
      → LeavesSlot code Slice (record s { stack = z3 ∷ z ∷ y ∷ s.stack }) s.stack (result_weight (slice_of y z z3))
      (slice_of y z z3) u
  slice_leaves t v v3 u row int int3 y z z3 s fits fits2 fits3 = record {
    covered = (t, u, row, fits, subst (Fits z) int fits2, subst (Fits z3) int3 fits3);
    charge = refl;
    acts = λ w place. refl;
    typed = slice_fits t u y z z3 row fits;
  }

  pub part_leaves : (t u : Shape) (fs : FieldShapes) (n : ℕ) → HasFields t fs → slice_get (field_types fs) n ≡ Some u
      → (y : Slot) (s : State) → Fits y t
      → LeavesSlot code (Field n) (record s { stack = y ∷ s.stack }) s.stack 0 (part_of n y) u
  part_leaves t u fs n of row y s fits = record {
    covered = has_part t u fs n y of row fits;
    charge = refl;
    acts = λ w place. refl;
    typed = part_fits t u fs n y of row fits;
  }

  pub definedness_leaves : (t u : Shape) → u ≡ Shape.truth → (y : Slot) (s : State) → Fits y t
      → LeavesSlot code Def (record s { stack = y ∷ s.stack }) s.stack 0 (definedness y) u
  definedness_leaves t u truth y s fits = record {
    covered = tt;
    charge = refl;
    acts = λ w place. refl;
    typed = subst (Fits (definedness y)) (sym truth) refl;
  }

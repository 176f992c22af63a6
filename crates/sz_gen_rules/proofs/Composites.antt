-- Expressions of several parts: predeclared functions, arrays, tuples and maps. And the parts, one after the other.
use Rattle.std.proofs.Common.{◌≡◌, ◌∙◌, ℕ, suc, ◌+◌, ◌*◌, ◌≤◌, List, [], ◌∷◌, length, Some, refl, sym, ap, subst, arith, drop}
use Rattle.sz_types.specs.Data.{Shape, FieldShapes}
use Rattle.sz_types.specs.Rows.{builtin_row, arity}
use Rattle.sz_types.specs.declared.place.Place.{Place}
use Rattle.sz_types.specs.declared.operator.Builtin.{Builtin}
use Rattle.sz_core.specs.Nodes.{Nodes, no_nodes, with_node, types_of}
use Rattle.sz_core.specs.Typing.{HasFields, field_types, AreAll}
use Rattle.sz_instr.specs.declared.instr.Instr.{Instr}
use Rattle.sz_instr.specs.declared.instr.Instr.TheVariants.{Apply, MakeArray, MakeTuple, MakeMap}
use Rattle.sz_instr.specs.declared.line.Line.{Line}
use Rattle.sz_instr.specs.declared.code.Code.{Code}
use Rattle.sz_world_rules.specs.World.{World, Given, Gives, Stops, Doing, and_then, give}
use Rattle.sz_world_rules.specs.Slots.{Slot}
use Rattle.sz_world_rules.specs.Typed.{Fits, AllFit}
use Rattle.sz_world_rules.specs.Operations.{applied, array_of, tuple_of, map_of}
use Rattle.sz_world_rules.specs.Ticks.{result_weight, builtin_weight}
use Rattle.sz_mean.specs.Expressions.{results}
use Rattle.sz_instr.specs.States.{State, After, Goes, goes_on, popped}
use Rattle.sz_instr.specs.Rows.{act}
use Rattle.sz_instr.specs.Covering.{HasBuiltinRow, Covers}
use Rattle.sz_instr.specs.Runs.{charge_of, ComesTo}
use Rattle.sz_gen_rules.specs.ExpressionCode.{closed, count_of}
use Rattle.sz_gen_rules.specs.Runs.{Kept, with_all, AfterEval, AfterAll, HasAt}
use Rattle.sz_gen_rules.proofs.Steps.{after_all, LeavesSlot, line_after, end_after, last_line}
use Rattle.sz_gen_rules.proofs.Stacks.{length-all_fit, enough, pops, leaves_below}
use Rattle.sz_gen_rules.proofs.Types.{applied_fits, arity_is, array_fits, tuple_fits, pair_types, length-pair_types, map_fits}

-- there are as many types as expressions
pub length-types_of : (es : Nodes) → length (types_of es) ≡ count_of es
length-types_of no_nodes = refl
length-types_of (with_node e es) = ap suc (length-types_of es)

module _ (code : Code) where
  -- the parts, and the line
  pub many_runs : (t : Shape) (i : Instr) (place : Place) (s : State) (end : ℕ) (x : After) (ts : List Shape)
      (added : Slot → ℕ) (f : List Slot → Slot) (ca : List Line) (a : Doing (List Slot))
      → ((ys : List Slot) (s1 : State) → AllFit ys ts
      → LeavesSlot code i (record s1 { stack = with_all ys s1.stack }) s1.stack (added (f ys)) (f ys) t)
      → HasAt code.lines s.at (closed ca i place) → s.at + length (closed ca i place) ≡ end
      → (AfterAll code ts s (s.at + length ca) x (a s.world) → ComesTo code s x)
      → AfterEval code t s end x (and_then (a s.world) (λ ys. results place added (f ys))) → ComesTo code s x
  many_runs t i place s end x ts added f ca a row has ends run h =
      let at1 = s.at + length ca in
      run (after_all code t ts s s end at1 x (λ ys. results place added (f ys)) (λ ys w kept h1.
      last_line code t s at1 (with_all ys s.stack) w end x i place added (f ys) (line_after code s.at ca i place has)
      (row ys (record s { at = at1; world = w }) kept.typed)
      (end_after s.at end ca i place ends) kept.left h1) (a s.world) h)

  -- no part leaves the stack as it is
  pub none_run : (s : State) (end : ℕ) (x : After) → s.at + 0 ≡ end → AfterAll code [] s end x (give [] s.world)
      → ComesTo code s x
  none_run s end x ends h =
      let same : end ≡ s.at = omega (arith, ends) in
      subst (λ n. ComesTo code (record s { at = n }) x) same (h (record { left = omega arith; typed = tt }))

  -- the first part, and then the others
  pub after_head : (u : Shape) (ts : List Shape) (s : State) (end end1 : ℕ) (x : After) (rest : Doing (List Slot))
      → ((y : Slot) (w : World) → Kept s.world u y w
      → AfterAll code ts (record s { at = end1; stack = y ∷ s.stack; world = w }) end x (rest w)
      → ComesTo code (record s { at = end1; stack = y ∷ s.stack; world = w }) x)
      → (r : Given Slot) → AfterAll code (u ∷ ts) s end x
      (and_then r (λ y w. and_then (rest w) (λ ys. give (y ∷ ys)))) → AfterEval code u s end1 x r
  after_head u ts s end end1 x rest next (Stops fault) h = h
  after_head u ts s end end1 x rest next (Gives y w) h = λ kept. next y w kept (tail kept (rest w) h)
    where
      tail : Kept s.world u y w → (r : Given (List Slot))
          → AfterAll code (u ∷ ts) s end x (and_then r (λ ys. give (y ∷ ys)))
          → AfterAll code ts (record s { at = end1; stack = y ∷ s.stack; world = w }) end x r
      tail kept (Stops fault) h = h
      tail kept (Gives ys w2) h =
          λ kept2. h (record { left = omega (arith, kept.left, kept2.left); typed = (kept.typed, kept2.typed) })

  -- a key and its value, and then the other pairs
  pub after_pair : (u v : Shape) (ts : List Shape) (s : State) (end end1 end2 : ℕ) (x : After) (value : Doing Slot)
      (rest : Doing (List Slot)) → ((y : Slot) (w : World) → Kept s.world u y w
      → AfterEval code v (record s { at = end1; stack = y ∷ s.stack; world = w }) end2 x (value w)
      → ComesTo code (record s { at = end1; stack = y ∷ s.stack; world = w }) x)
      → ((y z : Slot) (w : World) → w.left ≤ s.world.left
      → AfterAll code ts (record s { at = end2; stack = z ∷ y ∷ s.stack; world = w }) end x (rest w)
      → ComesTo code (record s { at = end2; stack = z ∷ y ∷ s.stack; world = w }) x)
      → (r : Given Slot)
      → AfterAll code (u ∷ v ∷ ts) s end x
      (and_then r (λ y w. and_then (value w) (λ z w2. and_then (rest w2) (λ ys. give (y ∷ z ∷ ys)))))
      → AfterEval code u s end1 x r
  after_pair u v ts s end end1 end2 x value rest next last (Stops fault) h = h
  after_pair u v ts s end end1 end2 x value rest next last (Gives y w) h =
      λ kept. next y w kept (second kept (value w) h)
    where
      tail : (z : Slot) (w2 : World) → Kept s.world u y w → Kept w v z w2 → (r : Given (List Slot))
          → AfterAll code (u ∷ v ∷ ts) s end x (and_then r (λ ys. give (y ∷ z ∷ ys)))
          → AfterAll code ts (record s { at = end2; stack = z ∷ y ∷ s.stack; world = w2 }) end x r
      tail z w2 kept kept2 (Stops fault) h = h
      tail z w2 kept kept2 (Gives ys w3) h =
          λ kept3. h (record {
            left = omega (arith, kept.left, kept2.left, kept3.left);
            typed = (kept.typed, (kept2.typed, kept3.typed));
          })

      second : Kept s.world u y w → (r : Given Slot)
          → AfterAll code (u ∷ v ∷ ts) s end x (and_then r (λ z w2. and_then (rest w2) (λ ys. give (y ∷ z ∷ ys))))
          → AfterEval code v (record s { at = end1; stack = y ∷ s.stack; world = w }) end2 x r
      second kept (Stops fault) h = h
      second kept (Gives z w2) h =
          λ kept2. last y z w2 (omega (arith, kept.left, kept2.left)) (tail z w2 kept kept2 (rest w2) h)

  -- ---- the lines

  pub applied_leaves : (b : Builtin) (ts : List Shape) (u : Shape) → builtin_row b ts ≡ Some u
      → (ys : List Slot) (s : State) → AllFit ys ts → LeavesSlot code (Apply b)
      (record s { stack = with_all ys s.stack }) s.stack (builtin_weight b (applied b ys)) (applied b ys) u
  applied_leaves b ts u row ys s fits =
      let many : length ys ≡ arity b = length-all_fit ys ts fits ∙ arity_is b ts u row in
      let same = pops (arity b) ys s.stack many in
      record {
        covered = (enough (arity b) ys s.stack many, subst (HasBuiltinRow b) (sym same) (ts, u, row, fits));
        charge = ap (λ zs. 1 + builtin_weight b (applied b zs)) same;
        acts = λ w place. λ j. Goes (record s {
          at = suc s.at;
          stack = applied b (same j) ∷ leaves_below (arity b) ys s.stack many j;
          world = w;
        });
        typed = applied_fits b ts u ys row fits;
      }

  -- what is made of so many operands, with the weight of the result
  abbrev Makes : Instr → ℕ → (List Slot → Slot) → Type 0
  Makes i n f =
      (s : State) → (charge_of code 1 i s ≡ 1 + result_weight (f (popped n s.stack)))
      × ((place : Place) → act code i place s ≡ goes_on s (f (popped n s.stack) ∷ drop n s.stack))
      × (n ≤ length s.stack → Covers code i s)

  made_leaves : (i : Instr) (n : ℕ) (f : List Slot → Slot) → Makes i n f → (t : Shape) (ys : List Slot) (s : State)
      → length ys ≡ n → Fits (f ys) t
      → LeavesSlot code i (record s { stack = with_all ys s.stack }) s.stack (result_weight (f ys)) (f ys) t
  made_leaves i n f makes t ys s many fits =
      let same = pops n ys s.stack many in
      let s1 : State = record s { stack = with_all ys s.stack } in
      record {
        covered = (makes s1).2 (enough n ys s.stack many);
        charge = (makes s1).0 ∙ ap (λ zs. 1 + result_weight (f zs)) same;
        acts = λ w place. (makes (record s1 { world = w })).1 place ∙ (λ j. Goes (record s {
          at = suc s.at;
          stack = f (same j) ∷ leaves_below n ys s.stack many j;
          world = w;
        }));
        typed = fits;
      }

  pub array_leaves : (es : Nodes) (t u : Shape) → t ≡ Shape.array u → AreAll u (types_of es)
      → (ys : List Slot) (s : State) → AllFit ys (types_of es) → LeavesSlot code (MakeArray (count_of es))
      (record s { stack = with_all ys s.stack }) s.stack (result_weight (array_of ys)) (array_of ys) t
  array_leaves es t u is all ys s fits =
      made_leaves (MakeArray (count_of es)) (count_of es) array_of (λ s1. (refl, λ place. refl, λ h. h)) t ys s
      (length-all_fit ys (types_of es) fits ∙ length-types_of es)
      (subst (Fits (array_of ys)) (sym is) (array_fits (types_of es) u ys all fits))

  pub tuple_leaves : (es : Nodes) (t : Shape) (fs : FieldShapes) → HasFields t fs → types_of es ≡ field_types fs
      → (ys : List Slot) (s : State) → AllFit ys (types_of es) → LeavesSlot code (MakeTuple (count_of es))
      (record s { stack = with_all ys s.stack }) s.stack (result_weight (tuple_of ys)) (tuple_of ys) t
  tuple_leaves es t fs of same ys s fits =
      made_leaves (MakeTuple (count_of es)) (count_of es) tuple_of (λ s1. (refl, λ place. refl, λ h. h)) t ys s
      (length-all_fit ys (types_of es) fits ∙ length-types_of es)
      (tuple_fits t fs ys of (subst (AllFit ys) same fits))

  pub map_leaves : (n : ℕ) (t k v : Shape) → t ≡ Shape.mapping k v → (ys : List Slot) (s : State)
      → AllFit ys (pair_types k v n) → LeavesSlot code (MakeMap n)
      (record s { stack = with_all ys s.stack }) s.stack (result_weight (map_of ys)) (map_of ys) t
  map_leaves n t k v is ys s fits =
      made_leaves (MakeMap n) (2 * n) map_of (λ s1. (refl, λ place. refl, λ h. h)) t ys s
      (length-all_fit ys (pair_types k v n) fits ∙ length-pair_types k v n)
      (subst (Fits (map_of ys)) (sym is) (map_fits n k v ys fits))

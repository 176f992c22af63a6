-- The last line of a statement, after the code of its expressions, does what the statement means with their slots.
use Rattle.std.proofs.Common.{◌≡◌, ◌∙◌, ℕ, suc, ◌+◌, ◌≤◌, List, ◌∷◌, length, map, Option, Some, None, refl, sym, ap, subst, arith, drop}
use Rattle.std.specs.Prelude.{slice_get, slice_set, is_some}
use Rattle.sz_types.specs.Data.{Shape}
use Rattle.sz_types.specs.Tables.{Declaration}
use Rattle.sz_types.specs.declared.place.Place.{Place}
use Rattle.sz_tabs.specs.Data.{EmitDatum}
use Rattle.sz_core.specs.Statements.{Step}
use Rattle.sz_core.specs.Sound.{Around}
use Rattle.sz_instr.specs.declared.instr.Instr.TheVariants.{Store, Discard, Emit}
use Rattle.sz_instr.specs.declared.code.Code.{Code}
use Rattle.sz_world_rules.specs.World.{World, Doing, and_then, paid, spend}
use Rattle.sz_world_rules.specs.Slots.{Slot, slot_at}
use Rattle.sz_world_rules.specs.Typed.{Fits, AllFit}
use Rattle.sz_world_rules.specs.Emits.{EmitParts, emit_of, emit_weight, emit_or_line, with_emit}
use Rattle.sz_world_rules.specs.Stores.{Stored, Holds, Undefined, Outside, stored}
use Rattle.sz_mean.specs.Statements.{bare, assigned, if_defined, emits}
use Rattle.sz_mean.specs.Endings.{Ending, passed_over}
use Rattle.sz_instr.specs.States.{State, After, Goes}
use Rattle.sz_instr.specs.Rows.{step_of, indexes_in, pass_over, after_store, if_defined as defined_on, emit_operands, emit_parts}
use Rattle.sz_instr.specs.Covering.{LeadsTo, HasPath, WeightFits, PartsFit, CanCount, IfUndefined}
use Rattle.sz_instr.specs.Runs.{ComesTo}
use Rattle.sz_gen_rules.specs.Tables.{line}
use Rattle.sz_gen_rules.specs.Runs.{NextComes, with_all}
use Rattle.sz_gen_rules.proofs.Steps.{at_line}
use Rattle.sz_gen_rules.proofs.Stacks.{length-all_fit, enough, pops, leaves_below}
use Rattle.sz_gen_rules.specs.StatementCode.{Exits, bare_step}
use Rattle.sz_gen_rules.specs.Backward.{AfterExec}
use Rattle.sz_gen_rules.proofs.Outcomes.{Counts, passes_over, pays_for}
use Rattle.sz_gen_rules.proofs.Parts.{steps_same, indexes_counted}
use Rattle.sz_gen_rules.proofs.Indexes.{index_types}
use Rattle.sz_gen_rules.proofs.Slots.{fit_at, fit_set}
use Rattle.sz_gen_rules.proofs.Stores.{StoreFits, stored_fits}

emitted_left : (e : Option EmitDatum) (w : World) → (with_emit e w).left ≡ w.left
emitted_left None w = refl
emitted_left (Some e) w = refl

-- the operands of an emit: its weight, if it has one, above its value, above its indexes
abbrev pub emitting : List Slot → Slot → Option Slot → List Slot → List Slot
emitting indexes value None stack = value ∷ with_all indexes stack
emitting indexes value (Some w) stack = w ∷ value ∷ with_all indexes stack

module _ (code : Code) (counting : Option ℕ) (counts : Counts code counting) (types : List Shape) (x : After)
    (a : Around) (out : Exits) (s : State)
    (end at : ℕ) (ends : suc at ≡ end) (fit : AllFit s.locals types) where
  -- the line after it, where the statement is passed over
  passed : (p : Place) (stack : List Slot) (w : World) → w.left ≤ s.world.left
      → AfterExec code a types out s end x (passed_over counting p s.locals w)
      → NextComes code (pass_over code.ignore p (record s { at = at; stack = stack; world = w }) (suc at) s.stack) x
  passed p stack w le h =
      passes_over code types x a out counting counts s end (suc at) at p stack s.locals w le fit
      (λ w1 k. subst (λ n. ComesTo code (record s { at = n; world = w1 }) x) (sym ends) k) h

  -- the variable holds what came of a store, or the store's fault
  after_stored : (r : Stored) (p : Place) (n : ℕ) (t : Shape) (v : Slot) (w : World) (stack : List Slot)
      → w.left ≤ s.world.left → slice_get types n ≡ Some t → StoreFits r t
      → AfterExec code a types out s end x (assigned counting r p n s.locals w) → NextComes code
      (after_store code.ignore r p n (record s { at = at; stack = stack; world = w }) s.stack) x
  after_stored (Holds d) p n t v w stack le is fits h =
      subst (λ k. ComesTo code (record s { at = k; locals = slice_set s.locals n (Some d); world = w }) x) (sym ends)
      (h (record { left = le; typed = fit_set s.locals types n (Some d) t fit is fits }))
  after_stored Undefined p n t v w stack le is fits h = passed p stack w le h
  after_stored Outside p n t v w stack le is fits h = h

  -- a store
  pub store_runs : (p : Place) (n : ℕ) (steps : List Step) (t u : Shape) (indexes : List Slot) (v : Slot) (w : World)
      → w.left ≤ s.world.left → slice_get types n ≡ Some t → LeadsTo t (map step_of (map bare_step steps))
      (index_types steps) u → AllFit indexes (index_types steps) → Fits v u
      → slice_get code.lines at ≡ Some (line (Store n (map bare_step steps)) 1 p)
      → AfterExec code a types out s end x (and_then (paid p (spend 1 w))
      (λ _. assigned counting (stored (slot_at s.locals n) (map bare steps) indexes v) p n s.locals))
      → ComesTo code (record s { at = at; stack = v ∷ with_all indexes s.stack; world = w }) x
  store_runs p n steps t u indexes v w le is leads fits fitv found h =
      let path = map bare_step steps in
      let old = slot_at s.locals n in
      let stack = with_all indexes s.stack in
      let s1 : State = record s { at = at; stack = v ∷ stack; world = w } in
      let slot = fit_at s.locals types n t fit is in
      let count : length indexes ≡ indexes_in path =
      length-all_fit indexes (index_types steps) fits ∙ sym (indexes_counted steps) in
      let has : HasPath path old indexes v = (t, u, index_types steps, leads, slot.1, fits, fitv) in
      let has1 = subst (λ l. HasPath path old l v) (sym (pops (indexes_in path) indexes s.stack count)) has in
      let st = stored_fits (map step_of path) t u (index_types steps) old v indexes leads slot.1 fits fitv in
      at_line code s1 (line (Store n path) 1 p) x found
      (slot.0, (enough (indexes_in path) indexes s.stack count, has1), counts.can)
      (pays_for code types x a out s s1 end (line (Store n path) 1 p) 1 _ (spend 1 w) refl (λ w2 e2 h2.
      let s2 : State = record s1 { world = w2 } in
      subst (λ l. NextComes code
      (after_store code.ignore (stored old (map step_of path) l v) p n s2 (drop (indexes_in path) stack)) x)
      (sym (pops (indexes_in path) indexes s.stack count))
      (subst (λ l. NextComes code (after_store code.ignore (stored old (map step_of path) indexes v) p n s2 l) x)
      (sym (leaves_below (indexes_in path) indexes s.stack count))
      (after_stored (stored old (map step_of path) indexes v) p n t v w2 (v ∷ stack) (omega arith) is st
      (subst (λ l. AfterExec code a types out s end x (assigned counting (stored old l indexes v) p n s.locals w2))
      (sym (steps_same steps)) h2)))) h)

  -- a value that is let go
  pub discard_runs : (p : Place) (v : Slot) (w : World) → w.left ≤ s.world.left
      → slice_get code.lines at ≡ Some (line Discard 0 p) → (next : Doing Ending)
      → (AfterExec code a types out s end x (next w) → ComesTo code (record s { at = end; world = w }) x)
      → AfterExec code a types out s end x (if_defined v next (passed_over counting p s.locals) w)
      → ComesTo code (record s { at = at; stack = v ∷ s.stack; world = w }) x
  discard_runs p v w le found next goes_on h =
      at_line code (record s { at = at; stack = v ∷ s.stack; world = w }) (line Discard 0 p) x found
      (covered v) (by v h)
    where
      covered : (v : Slot) → IfUndefined (CanCount code code.ignore) v
      covered None = counts.can
      covered (Some d) = tt

      by : (v1 : Slot) → AfterExec code a types out s end x (if_defined v1 next (passed_over counting p s.locals) w)
          → NextComes code (defined_on v1 (Goes (record s { at = suc at; world = w }))
          (pass_over code.ignore p (record s { at = at; stack = v ∷ s.stack; world = w }) (suc at) s.stack)) x
      by None h = passed p (v ∷ s.stack) w le h
      by (Some d) h = subst (λ k. ComesTo code (record s { at = k; world = w }) x) (sym ends) (goes_on h)

  -- an emit of parts that are those of its operands
  emit_parts_run : (p : Place) (table n : ℕ) (weighted : _) (d : Declaration) (parts : EmitParts) (stack : List Slot)
      (w : World) → w.left ≤ s.world.left → slice_get code.tables table ≡ Some d → PartsFit (Some d) parts
      → emit_operands n weighted ≤ length stack → emit_parts n weighted stack ≡ parts
      → drop (emit_operands n weighted) stack ≡ s.stack
      → slice_get code.lines at ≡ Some (line (Emit table n weighted) 1 p)
      → AfterExec code a types out s end x (emits counting p table parts s.locals w)
      → ComesTo code (record s { at = at; stack = stack; world = w }) x
  emit_parts_run p table n weighted d parts stack w le is fits few same rest found h =
      let s1 : State = record s { at = at; stack = stack; world = w } in
      let l = line (Emit table n weighted) 1 p in
      let covered : PartsFit (slice_get code.tables table) (emit_parts n weighted stack) =
      subst (λ o. PartsFit o (emit_parts n weighted stack)) (sym is)
      (subst (λ q. PartsFit (Some d) q) (sym same) fits) in
      let h1 = subst (λ q. AfterExec code a types out s end x (emits counting p table q s.locals w)) (sym same) h in
      at_line code s1 l x found (few, covered, counts.can)
      (pays_for code types x a out s s1 end l (1 + emit_weight (emit_parts n weighted stack)) _
      (spend (1 + emit_weight (emit_parts n weighted stack)) w) refl
      (λ w2 e2 h2.
      let emitted : Option ℕ → Option EmitDatum = λ c. emit_or_line (emit_of table (emit_parts n weighted stack)) c p in
      let w3 = with_emit (emitted counting) w2 in
      let le3 : w3.left ≤ s.world.left = omega (arith, emitted_left (emitted counting) w2, e2, le) in
      subst (λ c. ComesTo code
      (record s { at = suc at; stack = drop (emit_operands n weighted) stack; world = with_emit (emitted c) w2 }) x)
      (sym counts.same) (subst (λ l. ComesTo code (record s { at = suc at; stack = l; world = w3 }) x) (sym rest)
      (subst (λ k. ComesTo code (record s { at = k; world = w3 }) x) (sym ends)
      (h2 (record { left = le3; typed = fit }))))) h1)

  -- an emit
  pub emit_runs : (p : Place) (table n : ℕ) (d : Declaration) (indexes : List Slot) (value : Slot)
      (weight : Option Slot) (w : World) → w.left ≤ s.world.left → slice_get code.tables table ≡ Some d
      → AllFit indexes d.indexes → Fits value d.element → WeightFits weight d.weight → length d.indexes ≡ n
      → slice_get code.lines at ≡ Some (line (Emit table n (is_some weight)) 1 p)
      → AfterExec code a types out s end x
      (emits counting p table (record { indexes = indexes; value = value; weight = weight }) s.locals w)
      → ComesTo code (record s { at = at; stack = emitting indexes value weight s.stack; world = w }) x
  emit_runs p table n d indexes value None w le is fi fv fw count found h =
      let len : length indexes ≡ n = length-all_fit indexes d.indexes fi ∙ count in
      let there = enough n indexes s.stack len in
      emit_parts_run p table n _ d (record { indexes = indexes; value = value; weight = None })
      (value ∷ with_all indexes s.stack) w le is (fi, fv, fw) (omega (arith, there))
      (ap (λ l. record { indexes = l; value = value; weight = None }) (pops n indexes s.stack len))
      (let one : n + 1 ≡ suc n = omega arith in
      ap (λ k. drop k (value ∷ with_all indexes s.stack)) one ∙ leaves_below n indexes s.stack len) found h
  emit_runs p table n d indexes value (Some v) w le is fi fv fw count found h =
      let len : length indexes ≡ n = length-all_fit indexes d.indexes fi ∙ count in
      let there = enough n indexes s.stack len in
      emit_parts_run p table n _ d (record { indexes = indexes; value = value; weight = Some v })
      (v ∷ value ∷ with_all indexes s.stack) w le is (fi, fv, fw) (omega (arith, there))
      (ap (λ l. record { indexes = l; value = value; weight = Some v }) (pops n indexes s.stack len))
      (let two : n + 2 ≡ suc (suc n) = omega arith in
      ap (λ k. drop k (v ∷ value ∷ with_all indexes s.stack)) two ∙ leaves_below n indexes s.stack len) found h

-- The code of `when` does what `when` means, over what the code of its bases, its condition and its statement does.
use Rattle.std.proofs.Common.{◌≡◌, ℕ, suc, ◌+◌, List, [], ◌∷◌, ◌++◌, length, map, true, false, Some, refl, sym, subst, arith, length-append}
use Rattle.std.specs.Prelude.{slice_get}
use Rattle.std.proofs.lemmas.Option.{slice_get_within}
use Rattle.sz_types.specs.Data.{Shape}
use Rattle.sz_types.specs.declared.place.Place.{Place}
use Rattle.sz_value.specs.Data.{truth}
use Rattle.sz_core.specs.Statements.{Quantity, some, each, all, Quantified}
use Rattle.sz_core.specs.Sound.{Around}
use Rattle.sz_instr.specs.declared.instr.Instr.TheVariants.{Push, Discard, Enter, Next, Leave, Meets, Fails}
use Rattle.sz_instr.specs.declared.line.Line.{Line}
use Rattle.sz_instr.specs.declared.code.Code.{Code}
use Rattle.sz_world_rules.specs.World.{World, Given, Gives, Stops, Doing, and_then, give}
use Rattle.sz_world_rules.specs.Slots.{Slot}
use Rattle.sz_world_rules.specs.Typed.{AllFit}
use Rattle.sz_world_rules.specs.Candidates.{candidates}
use Rattle.sz_mean.specs.Expressions.{Setting, eval}
use Rattle.sz_mean.specs.Endings.{Running}
use Rattle.sz_mean.specs.Search.{Finding, Succeeds, Misses, Searching, and_also, any_of, each_of, all_of, holds, search_by, search, succeeded, exec_when}
use Rattle.sz_mean.specs.Statements.{variable_of}
use Rattle.sz_instr.specs.States.{State, After, Goes}
use Rattle.sz_instr.specs.Runs.{ComesTo}
use Rattle.sz_gen_rules.specs.Tables.{tables_in, constant_number, HasConstant, line}
use Rattle.sz_gen_rules.specs.Runs.{HasAt}
use Rattle.sz_gen_rules.proofs.Steps.{has_front, has_back, at_line}
use Rattle.sz_gen_rules.specs.FreeLines.{free, goes}
use Rattle.sz_gen_rules.specs.StatementCode.{Exits, variable_code_of}
use Rattle.sz_gen_rules.specs.SearchCode.{holds_code, some_code, each_code, variable_code, search_code, when_code}
use Rattle.sz_gen_rules.specs.NamedStatements.{QuantityHasNames, FlagsHaveNames}
use Rattle.sz_gen_rules.specs.Backward.{AreFlags, AfterExec}
use Rattle.sz_gen_rules.proofs.Candidates.{candidates_are, base_covered}
use Rattle.sz_gen_rules.proofs.Findings.{AfterFinding, finding_later, after_slot, met_by, refuted_by, after_part, after_inside, after_search}
use Rattle.sz_gen_rules.proofs.Searches.{elsewhere, SlotRuns, SearchRuns, InsideRuns, VariableRuns, any_runs, all_runs, each_runs}

module _ (code : Code) (set : Setting) (types : List Shape) (s : State) (x : After) where
  -- what is known of variables
  abbrev pub AllRun : List Quantified → Type 0
  AllRun [] = Unit {0}
  AllRun (v ∷ vs) =
      VariableRuns code types s x (variable_code_of (tables_in code) v) (λ l. eval set l v.base) × AllRun vs

module _ (code : Code) (set : Setting) (types : List Shape) (s : State) (x : After) (a : Around)
    (out : Exits) (place : Place) (condition_code : ℕ → List Line) (body_code : ℕ → ℕ → List Line)
    (condition : List Slot → Doing Slot) (body : Running)
    (asks : SlotRuns code types s x Shape.truth condition_code condition)
    (inside : InsideRuns code a out types s x body_code body) where
  -- one variable for some candidate
  some_runs : (v : Quantified)
      → VariableRuns code types s x (variable_code_of (tables_in code) v) (λ l. eval set l v.base)
      → (flags : ℕ) (rest_code : ℕ → ℕ → List Line) (rest : Searching)
      → SearchRuns code a.result types s x flags rest_code rest → SearchRuns code a.result types s x flags
      (some_code place (variable_code_of (tables_in code) v) rest_code)
      (λ l w. and_then (eval set l v.base w) (λ y. any_of place condition body v.local rest (candidates v.slice y) l))
  some_runs v known flags rest_code rest rest_runs at end fail stack l lists w are fit has en h =
      let lines = code.lines in
      let b = elsewhere s at stack l lists w in
      let cb = (variable_code_of (tables_in code) v).base at in
      let at1 = at + length cb in
      let top = at + length cb + 1 in
      let tried = rest_code top (suc top) in
      let last = suc top + length tried in
      let next = line (Next v.local fail) 1 place in
      let tail = free (Enter v.slice) ∷ next ∷ (tried ++ free Leave ∷ []) in
      let one : suc at1 ≡ top = omega arith in
      let len : suc last ≡ end = omega (arith, en, length-append cb tail, length-append tried (free Leave ∷ [])) in
      let has1 = has_back lines at cb tail has in
      let f1 : slice_get lines top ≡ Some next = subst (λ k. slice_get lines k ≡ Some next) one has1.1.0 in
      let has2 : HasAt lines (suc top) (tried ++ free Leave ∷ []) =
      subst (λ k. HasAt lines (suc k) (tried ++ free Leave ∷ [])) one has1.1.1 in
      known.runs at at1 stack l lists w fit (has_front lines at cb tail has) refl
      (after_slot code a.result types x flags b end fail known.of b at1 _ (λ y w1 k h1.
      at_line code (elsewhere s at1 (y ∷ stack) l lists w1)
      (free (Enter v.slice)) x has1.0 (base_covered v.slice known.of known.type y k.typed known.candidates)
      (subst (λ m. ComesTo code (elsewhere s m stack l (candidates v.slice y ∷ lists) w1) x) (sym one)
      (any_runs code a.result types x place condition body v.local known.type known.local rest b top last end
      fail flags len f1 (has_back lines (suc top) tried (free Leave ∷ []) has2).0
      (λ cs l2 w2 fit2 h2. rest_runs (suc top) last top stack l2 (cs ∷ lists) w2 are fit2
      (has_front lines (suc top) tried (free Leave ∷ []) has2) refl h2)
      (candidates v.slice y)
      (candidates_are v.slice known.of known.type y k.typed known.candidates) l w1 fit k.left h1)))
      (eval set l v.base w) h)

  -- one variable for each candidate
  each_of_runs : (v : Quantified)
      → VariableRuns code types s x (variable_code_of (tables_in code) v) (λ l. eval set l v.base)
      → HasConstant (tables_in code) (truth false) → HasConstant (tables_in code) (truth true)
      → (flags : ℕ) (rest_code : ℕ → ℕ → List Line) (rest : Searching)
      → SearchRuns code a.result types s x (suc flags) rest_code rest
      → SearchRuns code a.result types s x flags
      (each_code place (tables_in code) (variable_code_of (tables_in code) v) rest_code)
      (λ l w. and_then (eval set l v.base w)
      (λ y. each_of place condition body v.local rest (candidates v.slice y) false l))
  each_of_runs v known has_false has_true flags rest_code rest rest_runs at end fail stack l lists w are fit has en h =
      let lines = code.lines in
      let tables = tables_in code in
      let b = elsewhere s at stack l lists w in
      let cb = (variable_code_of tables v).base at in
      let at1 = at + length cb in
      let top = at + length cb + 2 in
      let tried = rest_code top (suc top) in
      let last = suc top + length tried in
      let low : ℕ → Line = λ to. line (Next v.local to) 1 place in
      let no = free (Push (constant_number tables (truth false))) in
      let yes = free (Push (constant_number tables (truth true))) in
      let ends = free Discard ∷ yes ∷ goes top ∷ free (Meets fail) ∷ [] in
      let tail = free (Enter v.slice) ∷ no ∷ low (suc top + length tried + 3) ∷ (tried ++ ends) in
      let two : suc (suc at1) ≡ top = omega arith in
      let three : suc top + length tried + 3 ≡ suc (suc (suc last)) = omega arith in
      let len : suc (suc (suc (suc last))) ≡ end = omega (arith, en, length-append cb tail, length-append tried ends) in
      let has1 = has_back lines at cb tail has in
      let f1 : slice_get lines top ≡ Some (low (suc (suc (suc last)))) =
      subst (λ k. slice_get lines top ≡ Some (low k)) three
      (subst (λ k. slice_get lines k ≡ Some (low (suc top + length tried + 3))) two has1.1.1.0) in
      let has2 : HasAt lines (suc top) (tried ++ ends) =
      subst (λ k. HasAt lines (suc k) (tried ++ ends)) two has1.1.1.1 in
      let has3 = has_back lines (suc top) tried ends has2 in
      let s1 : ℕ → List Slot → Slot → World → State =
      λ m st y w1. elsewhere s m st l (candidates v.slice y ∷ lists) w1 in
      known.runs at at1 stack l lists w fit (has_front lines at cb tail has) refl
      (after_slot code a.result types x flags b end fail known.of b at1 _ (λ y w1 k h1.
      at_line code (elsewhere s at1 (y ∷ stack) l lists w1)
      (free (Enter v.slice)) x has1.0 (base_covered v.slice known.of known.type y k.typed known.candidates)
      (at_line code (s1 (suc at1) stack y w1) no x has1.1.0
      (slice_get_within code.constants (constant_number tables (truth false)) (truth false) has_false)
      (subst (λ z. ComesTo code (s1 (suc (suc at1)) (z ∷ stack) y w1) x) (sym has_false)
      (subst (λ m. ComesTo code (s1 m (Some (truth false) ∷ stack) y w1) x) (sym two)
      (each_runs code a.result types x place condition body v.local known.type known.local rest b top last end fail
      flags has_true len f1 has3.0 has3.1.0 has3.1.1.0 has3.1.1.1.0
      (λ found cs l2 w2 fit2 h2. rest_runs (suc top) last top (Some (truth found) ∷ stack) l2 (cs ∷ lists) w2 are fit2
      (has_front lines (suc top) tried ends has2) refl h2)
      (candidates v.slice y)
      (candidates_are v.slice known.of known.type y k.typed known.candidates) false l w1 fit k.left h1)))))
      (eval set l v.base w) h)

  -- whether the condition is true or undefined for all candidates
  holds_runs : (vs : List Quantified) → AllRun code set types s x vs → (flags : ℕ)
      → SearchRuns code a.result types s x flags
      (holds_code place condition_code (map (variable_code_of (tables_in code)) vs))
      (holds place condition body (map (variable_of set) vs))
  holds_runs [] known flags at end fail stack l lists w are fit has en h =
      let lines = code.lines in
      let b = elsewhere s at stack l lists w in
      let asked = condition_code at in
      let at1 = at + length asked in
      let last = free (Fails fail) in
      let len : suc at1 ≡ end = omega (arith, en, length-append asked (last ∷ [])) in
      asks at at1 stack l lists w fit (has_front lines at asked (last ∷ []) has) refl
      (after_slot code a.result types x flags b end fail Shape.truth b at1 _ (λ y w1 k h1.
      at_line code (elsewhere s at1 (y ∷ stack) l lists w1) last x (has_back lines at asked (last ∷ []) has).0 k.typed
      (refuted_by code a.result types x flags b end fail w1 (give (Misses l)) (give (Succeeds l))
      (Goes (elsewhere s fail stack l lists w1)) (Goes (elsewhere s (suc at1) stack l lists w1))
      (λ h2. h2 (record { left = k.left; typed = fit }))
      (λ h2. subst (λ m. ComesTo code (elsewhere s m stack l lists w1) x) (sym len)
      (h2 (record { left = k.left; typed = fit }))) y h1)) (condition l w) h)
  holds_runs (v ∷ vs) known flags at end fail stack l lists w are fit has en h =
      let lines = code.lines in
      let b = elsewhere s at stack l lists w in
      let var = known.0 in
      let cb = (variable_code_of (tables_in code) v).base at in
      let at1 = at + length cb in
      let away = at + length cb + 2 in
      let top = away + 2 in
      let rest_code = holds_code place condition_code (map (variable_code_of (tables_in code)) vs) in
      let tried = rest_code away (away + 3) in
      let last = away + 3 + length tried in
      let low : ℕ → Line = λ to. line (Next v.local to) 1 place in
      let tail = free (Enter v.slice) ∷ goes top ∷ free Leave ∷ goes fail ∷ low (last + 1) ∷ (tried ++ goes top ∷ []) in
      let len : last + 1 ≡ end = omega (arith, en, length-append cb tail, length-append tried (goes top ∷ [])) in
      let two : suc (suc at1) ≡ away = omega arith in
      let four : suc (suc away) ≡ top = omega arith in
      let five : suc (suc (suc away)) ≡ suc top = omega arith in
      let three : away + 3 ≡ suc top = omega arith in
      let has1 = has_back lines at cb tail has in
      let has2 : HasAt lines away (free Leave ∷ goes fail ∷ low (last + 1) ∷ (tried ++ goes top ∷ [])) =
      subst (λ k. HasAt lines k (free Leave ∷ goes fail ∷ low (last + 1) ∷ (tried ++ goes top ∷ []))) two has1.1.1 in
      let f3 : slice_get lines top ≡ Some (low end) =
      subst (λ k. slice_get lines top ≡ Some (low k)) len
      (subst (λ k. slice_get lines k ≡ Some (low (last + 1))) four has2.1.1.0) in
      let has3 : HasAt lines (away + 3) (tried ++ goes top ∷ []) =
      subst (λ k. HasAt lines k (tried ++ goes top ∷ [])) (sym three)
      (subst (λ k. HasAt lines k (tried ++ goes top ∷ [])) five has2.1.1.1) in
      var.runs at at1 stack l lists w fit (has_front lines at cb tail has) refl
      (after_slot code a.result types x flags b end fail var.of b at1 _ (λ y w1 k h1.
      at_line code (elsewhere s at1 (y ∷ stack) l lists w1)
      (free (Enter v.slice)) x has1.0 (base_covered v.slice var.of var.type y k.typed var.candidates)
      (at_line code (elsewhere s (suc at1) stack l (candidates v.slice y ∷ lists) w1) (goes top) x has1.1.0 tt
      (all_runs code a.result types x place condition body v.local var.type var.local
      (holds place condition body (map (variable_of set) vs))
      b top last end fail flags away has2.0 has2.1.0 f3 (has_back lines (away + 3) tried (goes top ∷ []) has3).0
      (λ cs l2 w2 fit2 h2. subst (λ m. ComesTo code (elsewhere s m stack l2 (cs ∷ lists) w2) x) three
      (holds_runs vs known.1 flags (away + 3) last away stack l2 (cs ∷ lists) w2 are fit2
      (has_front lines (away + 3) tried (goes top ∷ []) has3) refl (finding_later code a.result types x flags
      (elsewhere s (suc top) stack l2 (cs ∷ lists) w2) last away (away + 3) l2 w2 (omega arith)
      (holds place condition body (map (variable_of set) vs) l2 w2) h2)))
      (candidates v.slice y) (candidates_are v.slice var.of var.type y k.typed var.candidates) l w1 fit k.left h1)))
      (eval set l v.base w) h)

  -- what follows a part that begins with a base, whether the base is seen as a part of it or not
  based : (flags : ℕ) (b : State) (end fail : ℕ) (r : Given Slot) (k : Slot → Doing Finding)
      (go : Finding → Doing Finding)
      → AfterFinding code a.result types flags b end fail x (and_then r (λ y w. and_then (k y w) go))
      → AfterFinding code a.result types flags b end fail x (and_then (and_then r k) go)
  based flags b end fail (Gives y w) k go h = h
  based flags b end fail (Stops fault) k go h = h

  -- a variable, by how it is quantified, over the rest of the search
  quantity_runs : (q : Quantity) (v : Quantified) (vs : List Quantified) → AllRun code set types s x (v ∷ vs)
      → QuantityHasNames (tables_in code) q (FlagsHaveNames (tables_in code) vs)
      → (flags : ℕ) (rest_code flagged_code : ℕ → ℕ → List Line) (rest : Searching)
      → (FlagsHaveNames (tables_in code) vs → SearchRuns code a.result types s x flags rest_code rest)
      → (FlagsHaveNames (tables_in code) vs → SearchRuns code a.result types s x (suc flags) flagged_code rest)
      → SearchRuns code a.result types s x flags
      (variable_code (tables_in code) place condition_code body_code q
      (variable_code_of (tables_in code) v) rest_code flagged_code
      (holds_code place condition_code (map (variable_code_of (tables_in code)) (v ∷ vs))) flags)
      (λ l w. and_then (eval set l v.base w)
      (λ y. search_by place condition body q v.local (candidates v.slice y) rest
      (holds place condition body (map (variable_of set) vs)) l))
  quantity_runs some v vs known names flags rest_code flagged_code rest rest_runs flagged_runs at end fail stack l
      lists w are fit has en h =
      some_runs v known.0 flags rest_code rest (rest_runs names) at end fail stack l lists w are fit has en h
  quantity_runs each v vs known names flags rest_code flagged_code rest rest_runs flagged_runs at end fail stack l
      lists w are fit has en h =
      each_of_runs v known.0 names.0 names.1 flags flagged_code rest
      (flagged_runs names.2) at end fail stack l lists w are fit has en h
  quantity_runs all v vs known names flags rest_code flagged_code rest rest_runs flagged_runs at end fail stack l
      lists w are fit has en h =
      let lines = code.lines in
      let b = elsewhere s at stack l lists w in
      let ch = holds_code place condition_code (map (variable_code_of (tables_in code)) (v ∷ vs)) fail at in
      let at1 = at + length ch in
      let whole = body_code flags at1 in
      let len : at1 + length whole ≡ end = omega (arith, en, length-append ch whole) in
      let others = holds place condition body (map (variable_of set) vs) in
      holds_runs (v ∷ vs) known flags at at1 fail stack l lists w are fit (has_front lines at ch whole has) refl
      (after_part code a.result types x flags b end fail at1 at (λ l2 w2. and_then (body l2 w2) succeeded)
      (λ l2 w2 k2 h2. inside flags at1 end stack l2 lists w2 are k2.typed (has_back lines at ch whole has) len
      (after_inside code a.result types x flags b end fail a out at1 l2 w2 k2.left refl (body l2 w2) h2))
      (and_then (eval set l v.base w) (λ y. all_of place condition body v.local others (candidates v.slice y) l))
      (based flags b end fail (eval set l v.base w)
      (λ y. all_of place condition body v.local others (candidates v.slice y) l)
      (λ f. and_also f (λ l2 w2. and_then (body l2 w2) succeeded)) h))

  -- the search over all variables
  search_runs : (vs : List Quantified) → AllRun code set types s x vs → FlagsHaveNames (tables_in code) vs → (flags : ℕ)
      → SearchRuns code a.result types s x flags
      (search_code (tables_in code) place condition_code body_code (map (variable_code_of (tables_in code)) vs) flags)
      (search place condition body (map (variable_of set) vs))
  search_runs [] known names flags at end fail stack l lists w are fit has en h =
      let lines = code.lines in
      let b = elsewhere s at stack l lists w in
      let asked = condition_code at in
      let at1 = at + length asked in
      let last = free (Meets fail) in
      let whole = body_code flags (at1 + 1) in
      let one : suc at1 ≡ at1 + 1 = omega arith in
      let len : at1 + 1 + length whole ≡ end = omega (arith, en, length-append asked (last ∷ whole)) in
      let has1 = has_back lines at asked (last ∷ whole) has in
      asks at at1 stack l lists w fit (has_front lines at asked (last ∷ whole) has) refl
      (after_slot code a.result types x flags b end fail Shape.truth b at1 _ (λ y w1 k h1.
      at_line code (elsewhere s at1 (y ∷ stack) l lists w1) last x has1.0 k.typed
      (met_by code a.result types x flags b end fail w1 (λ w2. and_then (body l w2) succeeded) (give (Misses l))
      (Goes (elsewhere s (suc at1) stack l lists w1)) (Goes (elsewhere s fail stack l lists w1))
      (λ h2. subst (λ m. ComesTo code (elsewhere s m stack l lists w1) x) (sym one)
      (inside flags (at1 + 1) end stack l lists w1 are fit (subst (λ m. HasAt lines m whole) one has1.1) len
      (after_inside code a.result types x flags b end fail a out (at1 + 1) l w1 k.left refl (body l w1) h2)))
      (λ h2. h2 (record { left = k.left; typed = fit }))
      y h1)) (condition l w) h)
  search_runs (v ∷ vs) known names flags at end fail stack l lists w are fit has en h =
      quantity_runs v.quantity v vs known names flags _ _ (search place condition body (map (variable_of set) vs))
      (λ more. search_runs vs known.1 more flags)
      (λ more. search_runs vs known.1 more (suc flags)) at end fail stack l lists w are fit has en h

  -- the whole statement
  pub when_runs : (vs : List Quantified) → AllRun code set types s x vs → FlagsHaveNames (tables_in code) vs
      → (end : ℕ) → AreFlags out.flags s.stack → AllFit s.locals types
      → HasAt code.lines s.at
      (when_code (tables_in code) place condition_code body_code
      (map (variable_code_of (tables_in code)) vs) out.flags s.at) → s.at + length (when_code (tables_in code) place
      condition_code body_code (map (variable_code_of (tables_in code)) vs) out.flags s.at) ≡ end
      → AfterExec code a types out s end x
      (exec_when place condition body (map (variable_of set) vs) s.locals s.world) → ComesTo code s x
  when_runs vs known names end are fit has en h =
      let lines = code.lines in
      let search_lines =
      search_code (tables_in code) place condition_code body_code
      (map (variable_code_of (tables_in code)) vs) out.flags (s.at + 1) (s.at + 2) in
      let len : s.at + 2 + length search_lines ≡ end = omega (arith, en) in
      let one : suc s.at ≡ s.at + 1 = omega arith in
      let two : suc (suc s.at) ≡ s.at + 2 = omega arith in
      let f1 : slice_get lines (s.at + 1) ≡ Some (goes end) =
      subst (λ k. slice_get lines k ≡ Some (goes end)) one
      (subst (λ k. slice_get lines (suc s.at) ≡ Some (goes k)) len has.1.0) in
      at_line code s (goes (s.at + 2)) x has.0 tt
      (search_runs vs known names out.flags (s.at + 2) end (s.at + 1) s.stack s.locals s.lists s.world are fit
      (subst (λ k. HasAt lines k search_lines) two has.1.1) len
      (after_search code a.result types x a out s end (s.at + 1) (s.at + 2) refl
      (λ l w k. at_line code (record s { at = s.at + 1; locals = l; world = w }) (goes end) x f1 tt k)
      (search place condition body (map (variable_of set) vs) s.locals s.world) h))

-- The code of one variable of a search does what the search over it means, over what the code of the rest does.
use Rattle.std.proofs.Common.{◌≡◌, ℕ, suc, ◌+◌, ◌≤◌, List, [], ◌∷◌, length, Bool, true, false, Option, Some, None, refl, sym, subst, arith}
use Rattle.std.specs.Prelude.{slice_get}
use Rattle.std.proofs.lemmas.Option.{slice_get_within}
use Rattle.sz_types.specs.Data.{Shape}
use Rattle.sz_types.specs.declared.place.Place.{Place}
use Rattle.sz_value.specs.Data.{Datum, truth}
use Rattle.sz_types.specs.Types.{has_type}
use Rattle.sz_core.specs.Sound.{Around, out_of_loops, candidate_type}
use Rattle.sz_instr.specs.declared.instr.Instr.TheVariants.{Push, Discard, Next, Leave, Meets}
use Rattle.sz_instr.specs.declared.line.Line.{Line}
use Rattle.sz_instr.specs.declared.code.Code.{Code}
use Rattle.sz_world_rules.specs.World.{World, Given, Gives, Stops, Doing, and_then, spend}
use Rattle.sz_world_rules.specs.Slots.{Slot}
use Rattle.sz_world_rules.specs.Typed.{AllFit}
use Rattle.sz_mean.specs.Endings.{Running, with_local}
use Rattle.sz_mean.specs.Search.{Finding, Succeeds, Misses, Leaves, Searching, or_else, and_also, and_each, found_one, tried, any_of, each_of, all_of}
use Rattle.sz_instr.specs.States.{State, After}
use Rattle.sz_instr.specs.Runs.{ComesTo}
use Rattle.sz_gen_rules.specs.Tables.{tables_in, constant_number, HasConstant, line}
use Rattle.sz_gen_rules.specs.Runs.{AllKept, AfterEval, HasAt}
use Rattle.sz_gen_rules.proofs.Steps.{at_line}
use Rattle.sz_gen_rules.specs.FreeLines.{free, goes}
use Rattle.sz_gen_rules.specs.StatementCode.{Exits, in_search}
use Rattle.sz_gen_rules.specs.SearchCode.{VariableCode}
use Rattle.sz_gen_rules.specs.Backward.{AreFlags, AfterReturn, AfterExec}
use Rattle.sz_gen_rules.proofs.Slots.{fit_at, fit_set}
use Rattle.sz_gen_rules.proofs.Outcomes.{kept_since, all_kept_since}
use Rattle.sz_gen_rules.proofs.Candidates.{AreOf}
use Rattle.sz_gen_rules.proofs.Findings.{AfterFinding, pays_to_try}

-- the run elsewhere in the same routine
abbrev pub elsewhere : State → ℕ → List Slot → List Slot → List (List Datum) → World → State
elsewhere s at stack l lists w = record s { at = at; stack = stack; locals = l; lists = lists; world = w }

-- code gives a slot of this type as is meant, wherever the routine is
abbrev pub SlotRuns : Code → List Shape → State → After → Shape → (ℕ → List Line) → (List Slot → Doing Slot) → Type 0
SlotRuns code types s x t lines value =
    (at end : ℕ) (stack l : List Slot) (lists : List (List Datum)) (w : World) → AllFit l types
    → HasAt code.lines at (lines at) → at + length (lines at) ≡ end
    → AfterEval code t (elsewhere s at stack l lists w) end x (value l w)
    → ComesTo code (elsewhere s at stack l lists w) x

-- code searches as is meant with so many flags on the stack
abbrev pub SearchRuns : Code → Option Shape → List Shape → State → After → (flags : ℕ) → (ℕ → ℕ → List Line)
    → Searching → Type 0
SearchRuns code result types s x flags lines search =
    (at end fail : ℕ) (stack l : List Slot) (lists : List (List Datum)) (w : World) → AreFlags flags stack
    → AllFit l types → HasAt code.lines at (lines fail at) → at + length (lines fail at) ≡ end
    → AfterFinding code result types flags (elsewhere s at stack l lists w) end fail x (search l w)
    → ComesTo code (elsewhere s at stack l lists w) x

-- code does what the statement inside means, with so many flags on the stack
abbrev pub InsideRuns : Code → Around → Exits → List Shape → State → After → (ℕ → ℕ → List Line) → Running → Type 0
InsideRuns code a out types s x lines body =
    (flags at end : ℕ) (stack l : List Slot) (lists : List (List Datum)) (w : World) → AreFlags flags stack
    → AllFit l types → HasAt code.lines at (lines flags at) → at + length (lines flags at) ≡ end
    → AfterExec code (out_of_loops a) types (in_search out flags) (elsewhere s at stack l lists w) end x (body l w)
    → ComesTo code (elsewhere s at stack l lists w) x

-- what is known of a variable: the type of its base, and that of its candidates, which its local has
pub record VariableRuns (code : Code) (types : List Shape) (s : State) (x : After) (c : VariableCode)
    (base : List Slot → Doing Slot) : Type 0 where
  pub of : Shape
  pub type : Shape
  pub runs : SlotRuns code types s x of c.base base
  pub candidates : candidate_type c.slice of ≡ Some type
  pub local : slice_get types c.local ≡ Some type

-- a return is the same with other lists
returns_inside : (code : Code) (result : Option Shape) (flags : ℕ) (b : State) (at : ℕ) (l : List Slot)
    (lists : List (List Datum)) (w1 : World) (x : After)
    → w1.left ≤ b.world.left → (y : Slot) (w : World) → AfterReturn code result flags b x y w
    → AfterReturn code result flags (record b { at = at; locals = l; lists = lists; world = w1 }) x y w
returns_inside code None flags b at l lists w1 x le y w h = h
returns_inside code (Some t) flags b at l lists w1 x le y w h = λ k. h (kept_since b.world w1 t y w le k)

-- the same below a flag
returns_below : (code : Code) (result : Option Shape) (flags : ℕ) (b : State) (at : ℕ) (top : Slot) (l : List Slot)
    (lists : List (List Datum)) (w1 : World)
    (x : After) → w1.left ≤ b.world.left → (y : Slot) (w : World) → AfterReturn code result flags b x y w
    → AfterReturn code result (suc flags)
    (record b { at = at; stack = top ∷ b.stack; locals = l; lists = lists; world = w1 }) x y w
returns_below code None flags b at top l lists w1 x le y w h = h
returns_below code (Some t) flags b at top l lists w1 x le y w h = λ k. h (kept_since b.world w1 t y w le k)

module _ (code : Code) (result : Option Shape) (types : List Shape) (x : After) (place : Place)
    (condition : List Slot → Doing Slot) (body : Running)
    (n : ℕ) (t : Shape) (is : slice_get types n ≡ Some t) (rest : Searching) (b : State) (top last end fail : ℕ) where
  -- the list is at its end, and the run goes to a line
  ends_list : (stack l : List Slot) (w : World) (to : ℕ) → slice_get code.lines top ≡ Some (line (Next n to) 1 place)
      → AllFit l types → ComesTo code (record b { at = to; stack = stack; locals = l; world = w }) x
      → ComesTo code (record b { at = top; stack = stack; locals = l; lists = [] ∷ b.lists; world = w }) x
  ends_list stack l w to found fit h =
      at_line code (record b { at = top; stack = stack; locals = l; lists = [] ∷ b.lists; world = w })
      (line (Next n to) 1 place) x found ((fit_at l types n t fit is).0, tt) h

  -- a candidate is tried
  tries : (flags : ℕ) (stack l : List Slot) (w : World) (to : ℕ) (c : Datum) (cs : List Datum)
      (go : Finding → Doing Finding)
      → slice_get code.lines top ≡ Some (line (Next n to) 1 place) → AllFit l types → has_type c t ≡ true
      → ((w1 : World) → w1.left ≤ w.left → AllFit (with_local n (Some c) l) types
      → AfterFinding code result types flags b end fail x (and_then (rest (with_local n (Some c) l) w1) go)
      → ComesTo code (record b {
        at = suc top;
        stack = stack;
        locals = with_local n (Some c) l;
        lists = cs ∷ b.lists;
        world = w1;
      }) x)
      → AfterFinding code result types flags b end fail x (and_then (tried place condition body n c rest l w) go)
      → ComesTo code (record b { at = top; stack = stack; locals = l; lists = (c ∷ cs) ∷ b.lists; world = w }) x
  tries flags stack l w to c cs go found fit typed next h =
      let s1 : State = record b { at = top; stack = stack; locals = l; lists = (c ∷ cs) ∷ b.lists; world = w } in
      at_line code s1 (line (Next n to) 1 place) x found ((fit_at l types n t fit is).0, tt)
      (pays_to_try code result types x flags b end fail s1 (line (Next n to) 1 place)
      (rest (with_local n (Some c) l)) go (spend 1 w) refl
      (λ w1 e1 h1. next w1 (omega (arith, e1)) (fit_set l types n (Some c) t fit is typed) h1) h)

  -- candidates until the rest succeeds with one: then the list is dropped
  pub any_runs : (flags : ℕ) → suc last ≡ end → slice_get code.lines top ≡ Some (line (Next n fail) 1 place)
      → slice_get code.lines last ≡ Some (free Leave)
      → ((cs : List Datum) (l : List Slot) (w : World) → AllFit l types
      → AfterFinding code result types flags
      (record b { at = suc top; locals = l; lists = cs ∷ b.lists; world = w }) last top x (rest l w)
      → ComesTo code (record b { at = suc top; locals = l; lists = cs ∷ b.lists; world = w }) x)
      → (cs : List Datum) → AreOf t cs → (l : List Slot) (w : World) → AllFit l types → w.left ≤ b.world.left
      → AfterFinding code result types flags b end fail x (any_of place condition body n rest cs l w)
      → ComesTo code (record b { at = top; locals = l; lists = cs ∷ b.lists; world = w }) x
  any_runs flags en f1 f2 rest_runs [] are l w fit le h =
      ends_list b.stack l w fail f1 fit (h (record { left = le; typed = fit }))
  any_runs flags en f1 f2 rest_runs (c ∷ cs) are l w fit le h =
      tries flags b.stack l w fail c cs _ f1 fit are.0 (λ w1 le1 fit1 h1.
      rest_runs cs (with_local n (Some c) l) w1 fit1 (found w1 (omega (arith, le, le1))
      (λ l2 w2 k2 h2. (let le2 = k2.left in
      any_runs flags en f1 f2 rest_runs cs are.1 l2 w2 k2.typed (omega (arith, le, le1, le2)) h2))
      (rest (with_local n (Some c) l) w1) h1)) h
    where
      found : (w1 : World) → w1.left ≤ b.world.left
          → ((l2 : List Slot) (w2 : World) → AllKept w1 types l2 w2
          → AfterFinding code result types flags b end fail x (any_of place condition body n rest cs l2 w2)
          → ComesTo code (record b { at = top; locals = l2; lists = cs ∷ b.lists; world = w2 }) x)
          → (r : Given Finding) → AfterFinding code result types flags b end fail x
          (and_then r (λ f. or_else f (any_of place condition body n rest cs)))
          → AfterFinding code result types flags
          (record b { at = suc top; locals = with_local n (Some c) l; lists = cs ∷ b.lists; world = w1 }) last top x r
      found w1 le1 next (Gives (Succeeds l2) w2) h2 = λ k.
          at_line code (record b { at = last; locals = l2; lists = cs ∷ b.lists; world = w2 }) (free Leave) x f2 tt
          (subst (λ m. ComesTo code (record b { at = m; locals = l2; world = w2 }) x) (sym en)
          (h2 (all_kept_since b.world w1 types l2 w2 le1 k)))
      found w1 le1 next (Gives (Misses l2) w2) h2 = λ k. next l2 w2 k h2
      found w1 le1 next (Gives (Leaves y) w2) h2 =
          returns_inside code result flags b (suc top) (with_local n (Some c) l) (cs ∷ b.lists) w1 x le1 y w2 h2
      found w1 le1 next (Stops fault) h2 = h2

  -- candidates until the rest fails with one: then the list is dropped on the way out
  pub all_runs : (flags away : ℕ) → slice_get code.lines away ≡ Some (free Leave)
      → slice_get code.lines (suc away) ≡ Some (goes fail)
      → slice_get code.lines top ≡ Some (line (Next n end) 1 place) → slice_get code.lines last ≡ Some (goes top)
      → ((cs : List Datum) (l : List Slot) (w : World) → AllFit l types
      → AfterFinding code result types flags
      (record b { at = suc top; locals = l; lists = cs ∷ b.lists; world = w }) last away x (rest l w)
      → ComesTo code (record b { at = suc top; locals = l; lists = cs ∷ b.lists; world = w }) x)
      → (cs : List Datum) → AreOf t cs → (l : List Slot) (w : World) → AllFit l types → w.left ≤ b.world.left
      → AfterFinding code result types flags b end fail x (all_of place condition body n rest cs l w)
      → ComesTo code (record b { at = top; locals = l; lists = cs ∷ b.lists; world = w }) x
  all_runs flags away f1 f2 f3 f4 rest_runs [] are l w fit le h =
      ends_list b.stack l w end f3 fit (h (record { left = le; typed = fit }))
  all_runs flags away f1 f2 f3 f4 rest_runs (c ∷ cs) are l w fit le h =
      tries flags b.stack l w end c cs _ f3 fit are.0 (λ w1 le1 fit1 h1.
      rest_runs cs (with_local n (Some c) l) w1 fit1 (found w1 (omega (arith, le, le1))
      (λ l2 w2 k2 h2. (let le2 = k2.left in
      all_runs flags away f1 f2 f3 f4 rest_runs cs are.1 l2 w2 k2.typed (omega (arith, le, le1, le2)) h2))
      (rest (with_local n (Some c) l) w1) h1)) h
    where
      found : (w1 : World) → w1.left ≤ b.world.left
          → ((l2 : List Slot) (w2 : World) → AllKept w1 types l2 w2
          → AfterFinding code result types flags b end fail x (all_of place condition body n rest cs l2 w2)
          → ComesTo code (record b { at = top; locals = l2; lists = cs ∷ b.lists; world = w2 }) x)
          → (r : Given Finding) → AfterFinding code result types flags b end fail x
          (and_then r (λ f. and_also f (all_of place condition body n rest cs)))
          → AfterFinding code result types flags (record b {
            at = suc top;
            locals = with_local n (Some c) l;
            lists = cs ∷ b.lists;
            world = w1;
          }) last away x r
      found w1 le1 next (Gives (Succeeds l2) w2) h2 = λ k.
          at_line code (record b { at = last; locals = l2; lists = cs ∷ b.lists; world = w2 }) (goes top) x f4 tt
          (next l2 w2 k h2)
      found w1 le1 next (Gives (Misses l2) w2) h2 = λ k.
          at_line code (record b { at = away; locals = l2; lists = cs ∷ b.lists; world = w2 }) (free Leave) x f1 tt
          (at_line code (record b { at = suc away; locals = l2; world = w2 }) (goes fail) x f2 tt
          (h2 (all_kept_since b.world w1 types l2 w2 le1 k)))
      found w1 le1 next (Gives (Leaves y) w2) h2 =
          returns_inside code result flags b (suc top) (with_local n (Some c) l) (cs ∷ b.lists) w1 x le1 y w2 h2
      found w1 le1 next (Stops fault) h2 = h2

  -- where all candidates are tried, the flag decides
  flag_met : (flags at : ℕ) (found : Bool) (l : List Slot) (w : World) → suc at ≡ end
      → slice_get code.lines at ≡ Some (free (Meets fail)) → AllFit l types
      → w.left ≤ b.world.left → AfterFinding code result types flags b end fail x (found_one found l w)
      → ComesTo code (record b { at = at; stack = Some (truth found) ∷ b.stack; locals = l; world = w }) x
  flag_met flags at true l w en f fit le h =
      at_line code (record b { at = at; stack = Some (truth true) ∷ b.stack; locals = l; world = w })
      (free (Meets fail)) x f refl (subst (λ m. ComesTo code (record b { at = m; locals = l; world = w }) x) (sym en)
      (h (record { left = le; typed = fit })))
  flag_met flags at false l w en f fit le h =
      at_line code (record b { at = at; stack = Some (truth false) ∷ b.stack; locals = l; world = w })
      (free (Meets fail)) x f refl (h (record { left = le; typed = fit }))

  -- all candidates, and the flag is set where the rest succeeds with one
  pub each_runs : (flags : ℕ) → HasConstant (tables_in code) (truth true) → suc (suc (suc (suc last))) ≡ end
      → slice_get code.lines top ≡ Some (line (Next n (suc (suc (suc last)))) 1 place)
      → slice_get code.lines last ≡ Some (free Discard)
      → slice_get code.lines (suc last) ≡ Some (free (Push (constant_number (tables_in code) (truth true))))
      → slice_get code.lines (suc (suc last)) ≡ Some (goes top)
      → slice_get code.lines (suc (suc (suc last))) ≡ Some (free (Meets fail))
      → ((found : Bool) (cs : List Datum) (l : List Slot) (w : World) → AllFit l types
      → AfterFinding code result types (suc flags)
      (record b { at = suc top; stack = Some (truth found) ∷ b.stack; locals = l; lists = cs ∷ b.lists; world = w })
      last top x (rest l w) → ComesTo code (record b {
        at = suc top;
        stack = Some (truth found) ∷ b.stack;
        locals = l;
        lists = cs ∷ b.lists;
        world = w;
      }) x)
      → (cs : List Datum) → AreOf t cs → (found : Bool) (l : List Slot) (w : World) → AllFit l types
      → w.left ≤ b.world.left
      → AfterFinding code result types flags b end fail x (each_of place condition body n rest cs found l w)
      → ComesTo code
      (record b { at = top; stack = Some (truth found) ∷ b.stack; locals = l; lists = cs ∷ b.lists; world = w }) x
  each_runs flags has_true en f1 f2 f3 f4 f5 rest_runs [] are found l w fit le h =
      ends_list (Some (truth found) ∷ b.stack) l w (suc (suc (suc last))) f1 fit
      (flag_met flags (suc (suc (suc last))) found l w en f5 fit le h)
  each_runs flags has_true en f1 f2 f3 f4 f5 rest_runs (c ∷ cs) are found l w fit le h =
      tries flags (Some (truth found) ∷ b.stack) l w (suc (suc (suc last))) c cs _ f1 fit are.0 (λ w1 le1 fit1 h1.
      rest_runs found cs (with_local n (Some c) l) w1 fit1 (after w1 (omega (arith, le, le1))
      (λ f l2 w2 k2 h2. (let le2 = k2.left in
      each_runs flags has_true en f1 f2 f3 f4 f5 rest_runs cs are.1 f l2 w2 k2.typed (omega (arith, le, le1, le2)) h2))
      (rest (with_local n (Some c) l) w1) h1)) h
    where
      after : (w1 : World) → w1.left ≤ b.world.left
          → ((f : Bool) (l2 : List Slot) (w2 : World) → AllKept w1 types l2 w2
          → AfterFinding code result types flags b end fail x (each_of place condition body n rest cs f l2 w2)
          → ComesTo code
          (record b { at = top; stack = Some (truth f) ∷ b.stack; locals = l2; lists = cs ∷ b.lists; world = w2 }) x)
          → (r : Given Finding)
          → AfterFinding code result types flags b end fail x
          (and_then r (λ f. and_each f found (each_of place condition body n rest cs)))
          → AfterFinding code result types (suc flags)
          (record b {
            at = suc top;
            stack = Some (truth found) ∷ b.stack;
            locals = with_local n (Some c) l;
            lists = cs ∷ b.lists;
            world = w1;
          }) last top x r
      after w1 le1 next (Gives (Succeeds l2) w2) h2 = λ k.
          let m = constant_number (tables_in code) (truth true) in
          let s2 : ℕ → List Slot → State = λ at stack. record b {
            at = at;
            stack = stack;
            locals = l2;
            lists = cs ∷ b.lists;
            world = w2;
          } in
          at_line code (s2 last (Some (truth found) ∷ b.stack)) (free Discard) x f2 tt
          (at_line code (s2 (suc last) b.stack) (free (Push m)) x f3
          (slice_get_within code.constants m (truth true) has_true)
          (subst (λ v. ComesTo code (s2 (suc (suc last)) (v ∷ b.stack)) x) (sym has_true)
          (at_line code (s2 (suc (suc last)) (Some (truth true) ∷ b.stack)) (goes top) x f4 tt (next true l2 w2 k h2))))
      after w1 le1 next (Gives (Misses l2) w2) h2 = λ k. next found l2 w2 k h2
      after w1 le1 next (Gives (Leaves y) w2) h2 =
          returns_below code result flags b (suc top) (Some (truth found)) (with_local n (Some c) l)
          (cs ∷ b.lists) w1 x le1 y w2 h2
      after w1 le1 next (Stops fault) h2 = h2

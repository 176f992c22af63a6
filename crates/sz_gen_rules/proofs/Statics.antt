-- The code of a program's statics does what they mean, and their slots have their types.
use Rattle.std.proofs.Common.{◌≡◌, ℕ, zero, suc, ◌+◌, ◌<◌, List, [], ◌∷◌, ◌++◌, length, map, Bool, true, false, Option, Some, None, IsNone, refl, sym, ap, subst, arith, length-append}
use Rattle.std.specs.Prelude.{slice_get, slice_set}
use Rattle.sz_types.specs.Data.{Shape}
use Rattle.sz_types.specs.declared.place.Place.{Place}
use Rattle.sz_types.specs.Types.{has_type}
use Rattle.sz_core.specs.Nodes.{type_of}
use Rattle.sz_core.specs.Programs.{Function, Static, Item, statics_of}
use Rattle.sz_core.specs.Programs as items
use Rattle.sz_core.specs.Sound.{Declared, AreItems, static_sight, record_sight, seen_after}
use Rattle.sz_instr.specs.declared.instr.Instr.TheVariants.{KeepStatic, EndRecord}
use Rattle.sz_instr.specs.declared.routine.Routine.{Routine}
use Rattle.sz_instr.specs.declared.code.Code.{Code}
use Rattle.sz_world_rules.specs.World.{World, Given, Gives, Stops, ◌>>◌, and_then, pay, paid, spend, budget_passed, most_open_calls, Outcome, Done, Faulted}
use Rattle.sz_world_rules.specs.Slots.{Slot}
use Rattle.sz_world_rules.specs.Typed.{Fits, AllFit}
use Rattle.sz_mean.specs.Expressions.{Setting, eval}
use Rattle.sz_mean.specs.Programs.{calls_at, outer_setting, initialised, slots_given}
use Rattle.sz_instr.specs.States.{State, After, Goes, Halts, Faults, Stuck, entered, faults}
use Rattle.sz_instr.specs.Runs.{charged, GoesOn, RunsFor, ComesTo, EndsStatic, RoutinesRunTo}
use Rattle.sz_gen_rules.specs.Tables.{tables_in, line}
use Rattle.sz_gen_rules.specs.ExpressionCode.{expression_code}
use Rattle.sz_gen_rules.specs.Runs.{NextComes, AfterEval, CallsBelow, HasAt}
use Rattle.sz_gen_rules.proofs.Steps.{has_front, has_back, at_line}
use Rattle.sz_gen_rules.specs.FreeLines.{free}
use Rattle.sz_gen_rules.specs.NamedStatements.{StaticsHaveNames}
use Rattle.sz_gen_rules.specs.Backward.{IsFixed}
use Rattle.sz_gen_rules.specs.ProgramCode.{static_code, statics_code, static_routines}
use Rattle.sz_gen_rules.proofs.Slots.{fit_at, fit_set}
use Rattle.sz_gen_rules.proofs.Declared.{IsWhole, after_table, after_function, after_static, is_before}
use Rattle.sz_gen_rules.proofs.Calls.{calls_front}
use Rattle.sz_gen_rules.proofs.Parts.{expression_runs}

-- ---- what is known of a slot after an expression

-- no run comes to nothing at all
goes_on_somewhere : (code : Code) (n : ℕ) → ((s : State) → RunsFor code n s Stuck → ⊥) → (y : After)
    → GoesOn y (λ next. RunsFor code n next Stuck) Stuck → ⊥
goes_on_somewhere code n never (Goes s) h = never s h
goes_on_somewhere code n never (Halts w statics) h = cc
goes_on_somewhere code n never (Faults fault) h = cc
goes_on_somewhere code n never Stuck h = h

never_stuck : (code : Code) (n : ℕ) (s : State) → RunsFor code n s Stuck → ⊥
never_stuck code zero s h = cc
never_stuck code (suc n) s h = goes_on_somewhere code n (never_stuck code n) h.0 h.2

-- what an expression gives has its type
abbrev pub GivesTyped : Given Slot → Shape → Type 0
GivesTyped (Gives v w) t = Fits v t
GivesTyped (Stops fault) t = Unit {0}

-- so it is where the run from its code comes to whatever it comes to from after it
gives_typed : (code : Code) (t : Shape) (s : State) (end : ℕ) (r : Given Slot)
    → ((x : After) → AfterEval code t s end x r → ComesTo code s x) → GivesTyped r t
gives_typed code t s end (Gives None w) runs = tt
gives_typed code t s end (Gives (Some d) w) runs = by (has_type d t) refl
  where
    by : (b : Bool) → has_type d t ≡ b → has_type d t ≡ true
    by true is = is
    by false is =
        let c = runs Stuck (λ k. (let typed = k.typed in absurd cc)) in
        absurd (never_stuck code c.steps s c.runs)
gives_typed code t s end (Stops fault) runs = tt

-- ---- one static

-- the slots have these types, if there is no fault
abbrev pub SlotsFit : Outcome (List Slot) → List Shape → Type 0
SlotsFit (Done slots) types = AllFit slots types
SlotsFit (Faulted fault) types = Unit {0}

module _ (place : Place) (slots : List Slot) (n : ℕ) where
  -- what the run of a static comes to
  abbrev paid_end : Slot → Option World → After
  paid_end v None = faults budget_passed place
  paid_end v (Some w) = Halts w (slice_set slots n v)

  abbrev static_end : Given Slot → After
  static_end (Gives v w) = paid_end v (spend 1 w)
  static_end (Stops fault) = Faults fault

  module _ (code : Code) (s : State) (at1 : ℕ) (t : Shape) (same : s.statics ≡ slots) (no_record : IsNone s.input)
      (within : n < length slots)
      (keeps : slice_get code.lines at1 ≡ Some (line (KeepStatic n) 1 place))
      (ends : slice_get code.lines (suc at1) ≡ Some (free EndRecord)) where
    -- the line that keeps it and the line that ends the run
    after_static_value : (r : Given Slot) → AfterEval code t s at1 (static_end r) r
    after_static_value (Stops fault) = refl
    after_static_value (Gives v w) = λ k.
        at_line code (record s { at = at1; stack = v ∷ s.stack; world = w }) (line (KeepStatic n) 1 place)
        (paid_end v (spend 1 w)) keeps (subst (λ l. n < length l) (sym same) within, tt, no_record) (by (spend 1 w))
      where
        by : (m : Option World) → NextComes code
            (charged code (line (KeepStatic n) 1 place) (record s { at = at1; stack = v ∷ s.stack; world = w }) m)
            (paid_end v m)
        by None = refl
        by (Some w2) =
            at_line code (record s { at = suc at1; statics = slice_set s.statics n v; world = w2 }) (free EndRecord)
            (Halts w2 (slice_set slots n v)) ends tt (ap (λ l. Halts w2 (slice_set l n v)) same)

  -- the runs of a static and of those after it, with what is known of the slots
  module _ (code : Code) (types : List Shape) (t : Shape) (s : State) (more : List Routine)
      (rest : Slot → World → Given (List Slot)) (next : (v : Slot) (w : World) → Fits v t
      → RoutinesRunTo code more w (slice_set slots n v) (slots_given (rest v w)) × SlotsFit
      (slots_given (rest v w)) types) where
    -- the run of the static comes to what it means, and so do those after it
    abbrev Follows : Outcome (List Slot) → Type 0
    Follows r =
        ((end : After) × ComesTo code s end × EndsStatic end (λ w statics. RoutinesRunTo code more w statics r) r)
        × SlotsFit r types

    paid_follows : (v : Slot) (m : Option World) → Fits v t → ComesTo code s (paid_end v m)
        → Follows (slots_given (and_then (paid place m) (λ _. rest v)))
    paid_follows v None fits comes = ((faults budget_passed place, comes, refl), tt)
    paid_follows v (Some w) fits comes = let h = next v w fits in ((Halts w (slice_set slots n v), comes, h.0), h.1)

    static_follows : (r : Given Slot) → GivesTyped r t → ComesTo code s (static_end r)
        → Follows (slots_given (and_then r (λ v. pay 1 place >> rest v)))
    static_follows (Gives v w) fits comes = paid_follows v (spend 1 w) fits comes
    static_follows (Stops fault) fits comes = ((Faults fault, comes, refl), tt)

-- ---- all statics

pub type_at : (front rest : List Shape) (t : Shape) → slice_get (front ++ t ∷ rest) (length front) ≡ Some t
type_at [] rest t = refl
type_at (u ∷ front) rest t = type_at front rest t

module _ (code : Code) (functions : List Function) (counting : Option ℕ) (whole : Declared)
    (calls_run : (slots : List Slot) → AllFit slots whole.statics → (room limit : ℕ)
    → CallsBelow code whole.functions slots room limit (calls_at functions counting slots room))
    (locals : List Shape) where
  pub statics_run : (rest : List Item) (seen : List ℕ) (d : Declared) (n at : ℕ) (slots : List Slot) (w : World)
      → AreItems locals seen d rest → IsWhole d rest whole
      → n ≡ length d.statics → StaticsHaveNames (tables_in code) (statics_of rest) → AllFit slots whole.statics
      → HasAt code.lines at (statics_code (tables_in code) n (statics_of rest) at)
      → RoutinesRunTo code (static_routines (tables_in code) n (statics_of rest) at) w slots
      (slots_given (initialised functions counting (statics_of rest) n slots w))
      × SlotsFit (slots_given (initialised functions counting (statics_of rest) n slots w)) whole.statics
  unfolding AreItems
  statics_run [] seen d n at slots w sound is count of fit has = (refl, fit)
  statics_run (items.table t ∷ rest) seen d n at slots w sound is count of fit has =
      statics_run rest seen
      (record d { tables = d.tables ++ t ∷ [] }) n at slots w sound.1 (after_table d t rest whole is) count of fit has
  statics_run (items.function f ∷ rest) seen d n at slots w sound is count of fit has =
      statics_run rest seen (record d { functions = d.functions ++ f.signature ∷ [] }) n at slots w sound.1
      (after_function d f rest whole is) count of fit has
  statics_run (items.statement c ∷ rest) seen d n at slots w sound is count of fit has =
      statics_run rest (seen_after (record_sight locals seen d) c).seen d n at slots w sound.1
      (record { statics = is.statics; functions = is.functions; tables = is.tables }) count of fit has
  statics_run (items.static v ∷ rest) seen d n at slots w sound is count of fit has =
      let lines = code.lines in
      let tables = tables_in code in
      let g = static_sight d in
      let set : Setting = outer_setting functions counting slots None in
      let before = is_before d (items.static v ∷ rest) whole is in
      let s0 : State = entered (record { entry = at; params = 0; locals = 0 }) slots None w in
      let ce = expression_code tables v.value at in
      let at1 = at + length ce in
      let keep = line (KeepStatic n) 1 v.place in
      let own = static_code tables n v at in
      let later = at + length own in
      let typed : slice_get whole.statics n ≡ Some v.type =
      subst (λ l. slice_get l n ≡ Some v.type) (sym is.statics)
      (subst (λ k. slice_get (d.statics ++ v.type ∷ map (λ (s : Static). s.type) (statics_of rest)) k ≡ Some v.type)
      (sym count) (type_at d.statics _ v.type)) in
      let own_has = has_front lines at own (statics_code tables (suc n) (statics_of rest) later) has in
      let last = has_back lines at ce (keep ∷ free EndRecord ∷ []) own_has in
      let below : (limit : ℕ) → CallsBelow code g.functions slots most_open_calls limit set.calls =
      λ limit. calls_front code g.functions whole.functions slots most_open_calls limit set.calls before.functions
      (calls_run slots fit most_open_calls limit) in
      let fixed : IsFixed g set most_open_calls [] slots None = record {
        statics_typed = λ k u e. fit_at slots whole.statics k u fit (before.statics k u e);
        statics_same = refl;
        input_seen = λ no. absurd cc;
        room_left = refl;
      } in
      let comes : (x : After) → AfterEval code (type_of v.value) s0 at1 x (eval set [] v.value w) → ComesTo code s0 x =
      λ x h. expression_runs code g set most_open_calls below g v.value s0 at1 x sound.0.value of.0 tt fixed
      (has_front lines at ce (keep ∷ free EndRecord ∷ []) own_has) refl h in
      let fits = gives_typed code (type_of v.value) s0 at1 (eval set [] v.value w) comes in
      static_follows v.place slots n code whole.statics v.type s0
      (static_routines tables (suc n) (statics_of rest) later)
      (λ x w2. initialised functions counting (statics_of rest) (suc n) (slice_set slots n x) w2)
      (λ x w2 f. statics_run rest seen (record d { statics = d.statics ++ v.type ∷ [] }) (suc n) later
      (slice_set slots n x) w2 sound.1 (after_static d v rest whole is)
      (omega (arith, count, length-append d.statics (v.type ∷ []))) of.1
      (fit_set slots whole.statics n x v.type fit typed f)
      (has_back lines at own (statics_code tables (suc n) (statics_of rest) later) has))
      (eval set [] v.value w) (subst (λ u. GivesTyped (eval set [] v.value w) u) sound.0.type fits)
      (comes (static_end v.place slots n (eval set [] v.value w))
      (after_static_value v.place slots n code s0 at1 (type_of v.value) refl refl
      (fit_at slots whole.statics n v.type fit typed).0 last.0 last.1.0
      (eval set [] v.value w)))

-- A run ends in one way.
use Rattle.std.proofs.Common.{◌≡◌, ℕ, zero, suc, List, [], ◌∷◌, length, Option, Some, None, sym, ◌∙◌, subst}
use Rattle.std.specs.Prelude.{slice_get}
use Rattle.sz_tabs.specs.Data.{EmitDatum}
use Rattle.sz_instr.specs.declared.line.Line.{Line}
use Rattle.sz_instr.specs.declared.routine.Routine.{Routine}
use Rattle.sz_instr.specs.declared.code.Code.{Code}
use Rattle.sz_world_rules.specs.World.{World, Outcome, new_world}
use Rattle.sz_world_rules.specs.Slots.{Slot, undefined_slots}
use Rattle.sz_instr.specs.States.{State, After, IsOver, Goes, Halts, Faults, Stuck, entered}
use Rattle.sz_instr.specs.Runs.{LeadsBy, GoesOn, RunsFor, EndsRecord, RunsTo, EndsStatic, RoutinesRunTo, StaticsRunTo}

module _ (code : Code) where
  -- a line leads to one thing
  one_next : (l : Option Line) (s : State) (x y : After) → LeadsBy code l s x → LeadsBy code l s y → x ≡ y
  one_next None s x y h k = absurd h
  one_next (Some l) s x y h k = sym h.1 ∙ k.1

  no_end : (s : State) (x : After) → IsOver x → Goes s ≡ x → ⊥
  no_end s x end e = subst IsOver (sym e) end

  -- what a run goes on to ends in one way, if the runs after it do
  goes_on : (z x y : After) (P Q : State → Type 0) → ((s : State) → P s → Q s → x ≡ y) → GoesOn z P x
      → GoesOn z Q y → x ≡ y
  goes_on (Goes s) x y P Q same h k = same s h k
  goes_on (Halts w statics) x y P Q same h k = sym h ∙ k
  goes_on (Faults fault) x y P Q same h k = sym h ∙ k
  goes_on Stuck x y P Q same h k = absurd h

  pub one_end : (n m : ℕ) (s : State) (x y : After) → IsOver x → IsOver y → RunsFor code n s x
      → RunsFor code m s y → x ≡ y
  one_end zero m s x y ex ey h k = absurd (no_end s x ex h)
  one_end (suc n) zero s x y ex ey h k = absurd (no_end s y ey k)
  one_end (suc n) (suc m) s x y ex ey h k =
      let same = one_next (slice_get code.lines s.at) s h.0 k.0 h.1 k.1 in
      goes_on h.0 x y (λ next. RunsFor code n next x) (λ next. RunsFor code m next y)
      (λ next. one_end n m next x y ex ey) h.2
      (subst (λ z. GoesOn z (λ next. RunsFor code m next y) y) (sym same) k.2)

-- what has an outcome is an end
pub over_of : (end : After) (r : Outcome (List EmitDatum)) → EndsRecord end r → IsOver end
over_of (Goes s) r h = absurd h
over_of (Halts w statics) r h = tt
over_of (Faults fault) r h = tt
over_of Stuck r h = absurd h

one_outcome : (end : After) (r q : Outcome (List EmitDatum)) → EndsRecord end r → EndsRecord end q → r ≡ q
one_outcome (Goes s) r q h k = absurd h
one_outcome (Halts w statics) r q h k = h ∙ sym k
one_outcome (Faults fault) r q h k = h ∙ sym k
one_outcome Stuck r q h k = absurd h

-- a run for a record has one outcome
pub runs_to_one : (code : Code) (input : List ℕ) (statics : List Slot) (budget : ℕ) (r q : Outcome (List EmitDatum))
    → RunsTo code input statics budget r → RunsTo code input statics budget q → r ≡ q
runs_to_one code input statics budget r q h k =
    let same = one_end code h.comes.steps k.comes.steps _ h.end k.end (over_of h.end r h.is)
    (over_of k.end q k.is) h.comes.runs k.comes.runs in
    one_outcome h.end r q h.is (subst (λ e. EndsRecord e q) (sym same) k.is)

-- what ends a static's run is an end
pub static_over : (end : After) (P : World → List Slot → Type 0) (r : Outcome (List Slot))
    → EndsStatic end P r → IsOver end
static_over (Goes s) P r h = absurd h
static_over (Halts w statics) P r h = tt
static_over (Faults fault) P r h = tt
static_over Stuck P r h = absurd h

-- the runs of routines, one after the other, have one outcome
routines_to_one : (code : Code) (routines : List Routine) (w : World) (statics : List Slot) (r q : Outcome (List Slot))
    → RoutinesRunTo code routines w statics r → RoutinesRunTo code routines w statics q → r ≡ q
routines_to_one code [] w statics r q h k = h ∙ sym k
routines_to_one code (routine ∷ rest) w statics r q h k =
    let next : Outcome (List Slot) → World → List Slot → Type 0 = λ o v slots. RoutinesRunTo code rest v slots o in
    let same : h.0 ≡ k.0 =
    one_end code h.1.steps k.1.steps (entered routine statics None w) h.0 k.0 (static_over h.0 (next r) r h.2)
    (static_over k.0 (next q) q k.2) h.1.runs k.1.runs in
    by h.0 (λ v slots. routines_to_one code rest v slots r q) h.2 (subst (λ e. EndsStatic e (next q) q) (sym same) k.2)
  where
    by : (end : After) → ((v : World) (slots : List Slot) → RoutinesRunTo code rest v slots r
        → RoutinesRunTo code rest v slots q → r ≡ q) → EndsStatic end (λ v slots. RoutinesRunTo code rest v slots r) r
        → EndsStatic end (λ v slots. RoutinesRunTo code rest v slots q) q → r ≡ q
    by (Goes s) follows h k = absurd h
    by (Halts v slots) follows h k = follows v slots h k
    by (Faults fault) follows h k = h ∙ sym k
    by Stuck follows h k = absurd h

-- the runs of the statics have one outcome
pub statics_to_one : (code : Code) (budget : ℕ) (r q : Outcome (List Slot)) → StaticsRunTo code budget r
    → StaticsRunTo code budget q → r ≡ q
statics_to_one code budget r q h k =
    routines_to_one code code.statics (new_world budget) (undefined_slots (length code.statics)) r q h k

-- A run that ends does so after some number of lines, and each line leaves one less.
use Rattle.std.proofs.Common.{arith, ◌≡◌, ◌∙◌, ℕ, zero, suc, ◌+◌, ◌<◌, List, [], ◌∷◌, length, slice_get, Bool, true, Option, Some, None, refl, sym, ap, subst, true≢false}
use Rattle.sz_instr.specs.declared.code.Code.{Code}
use Rattle.sz_instr.specs.declared.line.Line.{Line}
use Rattle.sz_instr.specs.declared.routine.Routine.{Routine}
use Rattle.sz_world_rules.specs.World.{World, new_world, Outcome, Fault}
use Rattle.sz_world_rules.specs.Slots.{Slot, undefined_slots}
use Rattle.sz_instr.specs.States.{State, After, Goes, Halts, Faults, Stuck, IsOver, entered}
use Rattle.sz_instr.specs.Runs.{LeadsBy, GoesOn, RunsFor, EndsStatic, RoutinesRunTo, record_start, does}
use Rattle.sz_instr.proofs.OneEnd.{over_of}
use Rattle.sz_machine.specs.Ends.{RunEnds, StaticsRunEnds}
use Rattle.sz_machine.specs.Leasts.{least_from}
use Rattle.sz_machine.specs.LinesLeft.{led_by, line_leads, after_lines, is_over, ends_within, lines_left, is_over_and, routines_end_within, RecordLines, StaticsLines}

-- what is over is told to be
over_told : (x : After) → IsOver x → is_over x ≡ true
over_told (Goes s) over = absurd over
over_told (Halts w statics) over = refl
over_told (Faults fault) over = refl
over_told Stuck over = refl

module _ (code : Code) where
  leads_there : (o : Option Line) (s : State) (y : After) → LeadsBy code o s y → led_by code o s ≡ y
  leads_there None s y h = absurd h
  leads_there (Some line) s y h = h.1

  at_end : (n : ℕ) (x : After) → IsOver x → after_lines code n x ≡ x
  at_end zero x over = refl
  at_end (suc n) (Goes s) over = absurd over
  at_end (suc n) (Halts w statics) over = refl
  at_end (suc n) (Faults fault) over = refl
  at_end (suc n) Stuck over = refl

  goes_there : (n : ℕ) (y x : After) → ((next : State) → RunsFor code n next x → after_lines code n (Goes next) ≡ x)
      → GoesOn y (λ next. RunsFor code n next x) x → after_lines code n y ≡ x
  goes_there n (Goes t) x further h = further t h
  goes_there n (Halts w statics) x further h = at_end n (Halts w statics) tt ∙ h
  goes_there n (Faults fault) x further h = at_end n (Faults fault) tt ∙ h
  goes_there n Stuck x further h = absurd h

  -- what a run comes to by so many lines, these lead to
  pub runs_there : (n : ℕ) (s : State) (x : After) → IsOver x → RunsFor code n s x → after_lines code n (Goes s) ≡ x
  runs_there zero s x over e = absurd (subst IsOver (sym e) over)
  runs_there (suc n) s x over h =
      ap (after_lines code n) (leads_there (slice_get code.lines s.at) s h.0 h.1)
      ∙ goes_there n h.0 x (λ next. runs_there n next x over) h.2

  -- what is over after so many lines is so after one more
  still_over : (n : ℕ) (x : After) → is_over (after_lines code n x) ≡ true
      → after_lines code (suc n) x ≡ after_lines code n x
  still_over zero (Goes s) e = absurd (true≢false (sym e))
  still_over zero (Halts w statics) e = refl
  still_over zero (Faults fault) e = refl
  still_over zero Stuck e = refl
  still_over (suc n) (Goes s) e = still_over n (line_leads code s) e
  still_over (suc n) (Halts w statics) e = refl
  still_over (suc n) (Faults fault) e = refl
  still_over (suc n) Stuck e = refl

  -- so it is after any number more
  stays : (d n : ℕ) (x : After) → is_over (after_lines code n x) ≡ true
      → after_lines code (d + n) x ≡ after_lines code n x
  stays zero n x e = ap (λ k. after_lines code k x) (let same : zero + n ≡ n = omega arith in same)
  stays (suc d) n x e =
      let more : suc d + n ≡ suc (d + n) = omega arith in
      ap (λ k. after_lines code k x) more ∙ still_over (d + n) x (ap is_over (stays d n x e) ∙ e) ∙ stays d n x e

  -- the end is one
  pub same_end : (n m : ℕ) (x : After) → is_over (after_lines code n x) ≡ true → is_over (after_lines code m x) ≡ true
      → after_lines code n x ≡ after_lines code m x
  same_end n m x e f =
      let same : m + n ≡ n + m = omega arith in
      sym (stays m n x e) ∙ ap (λ k. after_lines code k x) same ∙ stays n m x f

  same_left : (n : ℕ) (x : After) → is_over (after_lines code n x) ≡ true
      → lines_left code (suc n) x ≡ lines_left code n x
  same_left zero (Goes s) e = absurd (true≢false (sym e))
  same_left zero (Halts w statics) e = refl
  same_left zero (Faults fault) e = refl
  same_left zero Stuck e = refl
  same_left (suc n) (Goes s) e = ap suc (same_left n (line_leads code s) e)
  same_left (suc n) (Halts w statics) e = refl
  same_left (suc n) (Faults fault) e = refl
  same_left (suc n) Stuck e = refl

  one_less : (n : ℕ) (s : State) → ends_within code n (Goes s) ≡ true
      → lines_left code n (line_leads code s) < lines_left code n (Goes s)
  one_less zero s e = absurd (true≢false (sym e))
  one_less (suc n) s e =
      let same = same_left n (line_leads code s) e in
      let less : lines_left code n (line_leads code s) < suc (lines_left code n (line_leads code s)) = omega arith in
      subst (λ k. k < suc (lines_left code n (line_leads code s))) (sym same) less

  still_within : (n : ℕ) (s : State) → ends_within code n (Goes s) ≡ true
      → ends_within code n (line_leads code s) ≡ true
  still_within zero s e = absurd (true≢false (sym e))
  still_within (suc n) s e = ap is_over (still_over n (line_leads code s) e) ∙ e

  -- a line leads to the next state
  pub leads_on : (s t : State) (line : Line) → slice_get code.lines s.at ≡ Some line → does code line s ≡ Goes t
      → line_leads code s ≡ Goes t
  leads_on s t line is e = ap (λ o. led_by code o s) is ∙ e

  -- the next state is at its end after as many lines at most
  pub next_within : (n : ℕ) (s t : State) → line_leads code s ≡ Goes t → ends_within code n (Goes s) ≡ true
      → ends_within code n (Goes t) ≡ true
  next_within n s t leads e = subst (λ x. ends_within code n x ≡ true) leads (still_within n s e)

  -- it has fewer lines left
  pub next_less : (n : ℕ) (s t : State) → line_leads code s ≡ Goes t → ends_within code n (Goes s) ≡ true
      → lines_left code n (Goes t) < lines_left code n (Goes s)
  next_less n s t leads e = subst (λ x. lines_left code n x < lines_left code n (Goes s)) leads (one_less n s e)

  over_had : (x : After) (next : World → List Slot → Bool) → is_over_and x next ≡ true → is_over x ≡ true
  over_had (Goes s) next e = absurd (true≢false (sym e))
  over_had (Halts w statics) next e = refl
  over_had (Faults fault) next e = refl
  over_had Stuck next e = refl

  over_by : (x : After) (f g : World → List Slot → Bool)
      → ((w : World) (statics : List Slot) → f w statics ≡ true → g w statics ≡ true)
      → is_over_and x f ≡ true → is_over_and x g ≡ true
  over_by (Goes s) f g follows e = absurd (true≢false (sym e))
  over_by (Halts w statics) f g follows e = follows w statics e
  over_by (Faults fault) f g follows e = refl
  over_by Stuck f g follows e = refl

  -- the routines are at their ends after one line more
  one_more : (n : ℕ) (routines : List Routine) (w : World) (statics : List Slot)
      → routines_end_within code n routines w statics ≡ true
      → routines_end_within code (suc n) routines w statics ≡ true
  one_more n [] w statics e = refl
  one_more n (r ∷ rest) w statics e =
      let x = after_lines code n (Goes (entered r statics None w)) in
      let now : World → List Slot → Bool = λ next slots. routines_end_within code n rest next slots in
      let more : World → List Slot → Bool = λ next slots. routines_end_within code (suc n) rest next slots in
      ap (λ y. is_over_and y more) (still_over n (Goes (entered r statics None w)) (over_had x now e))
      ∙ over_by x now more (λ next slots. one_more n rest next slots) e

  any_more : (d n : ℕ) (routines : List Routine) (w : World) (statics : List Slot)
      → routines_end_within code n routines w statics ≡ true
      → routines_end_within code (d + n) routines w statics ≡ true
  any_more zero n routines w statics e =
      let same : n ≡ zero + n = omega arith in
      subst (λ k. routines_end_within code k routines w statics ≡ true) same e
  any_more (suc d) n routines w statics e =
      let same : suc (d + n) ≡ suc d + n = omega arith in
      subst (λ k. routines_end_within code k routines w statics ≡ true) same
      (one_more (d + n) routines w statics (any_more d n routines w statics e))

  halts_and : (n m : ℕ) (s : State) (end : After) (rest : List Routine) → IsOver end → RunsFor code n s end
      → ((w : World) (statics : List Slot) → end ≡ Halts w statics → routines_end_within code m rest w statics ≡ true)
      → is_over_and (after_lines code (m + n) (Goes s))
      (λ next slots. routines_end_within code (m + n) rest next slots) ≡ true
  halts_and n m s end rest over runs follows =
      ap (λ x. is_over_and x (λ next slots. routines_end_within code (m + n) rest next slots))
      (stays m n (Goes s) told ∙ there) ∙ by end over follows
    where
      there : after_lines code n (Goes s) ≡ end
      there = runs_there n s end over runs

      told : is_over (after_lines code n (Goes s)) ≡ true
      told = ap is_over there ∙ over_told end over

      more : (w : World) (statics : List Slot) → routines_end_within code m rest w statics ≡ true
          → routines_end_within code (m + n) rest w statics ≡ true
      more w statics e =
          let same : n + m ≡ m + n = omega arith in
          subst (λ k. routines_end_within code k rest w statics ≡ true) same (any_more n m rest w statics e)

      by : (end : After) → IsOver end → ((w : World) (statics : List Slot) → end ≡ Halts w statics
          → routines_end_within code m rest w statics ≡ true)
          → is_over_and end (λ next slots. routines_end_within code (m + n) rest next slots) ≡ true
      by (Goes s) over follows = absurd over
      by (Halts w statics) over follows = more w statics (follows w statics refl)
      by (Faults fault) over follows = refl
      by Stuck over follows = refl

  -- the runs of routines that end do so after some number of lines each
  routines_end : (routines : List Routine) (w : World) (statics : List Slot) (o : Outcome (List Slot))
      → RoutinesRunTo code routines w statics o → (n : ℕ) × (routines_end_within code n routines w statics ≡ true)
  routines_end [] w statics o h = (zero, refl)
  routines_end (r ∷ rest) w statics o h =
      by h.0 h.1.steps h.1.runs (λ next slots. routines_end rest next slots o) h.2
    where
      same : (next : World) (slots : List Slot) (m : ℕ) → routines_end_within code m rest next slots ≡ true
          → (v : World) (taken : List Slot) → Halts next slots ≡ Halts v taken
          → routines_end_within code m rest v taken ≡ true
      same next slots m e v taken is =
          subst (λ x. is_over_and x (λ a b. routines_end_within code m rest a b) ≡ true) is e

      no_halt : (fault : Fault) (next : World) (slots : List Slot) → Faults fault ≡ Halts next slots → ⊥
      no_halt fault next slots e = cc

      by : (end : After) (n : ℕ) → RunsFor code n (entered r statics None w) end
          → ((next : World) (slots : List Slot) → RoutinesRunTo code rest next slots o
          → (m : ℕ) × (routines_end_within code m rest next slots ≡ true))
          → EndsStatic end (λ next slots. RoutinesRunTo code rest next slots o) o
          → (m : ℕ) × (routines_end_within code m (r ∷ rest) w statics ≡ true)
      by (Goes s) n runs further ends = absurd ends
      by (Halts next slots) n runs further ends =
          let m = further next slots ends in (
            m.0 + n,
            halts_and n m.0 (entered r statics None w) (Halts next slots) rest tt runs (same next slots m.0 m.1),
          )
      by (Faults fault) n runs further ends = (
        zero + n,
        halts_and n zero (entered r statics None w) (Faults fault) rest tt runs
            (λ next slots e. absurd (no_halt fault next slots e)),
      )
      by Stuck n runs further ends = absurd ends

  -- the first of such routines is at its end after so many lines
  pub first_within : (n : ℕ) (r : Routine) (rest : List Routine) (w : World) (statics : List Slot)
      → routines_end_within code n (r ∷ rest) w statics ≡ true
      → ends_within code n (Goes (entered r statics None w)) ≡ true
  first_within n r rest w statics e =
      over_had (after_lines code n (Goes (entered r statics None w)))
      (λ next slots. routines_end_within code n rest next slots) e

  -- where it halts, the others are
  pub rest_within : (n steps : ℕ) (r : Routine) (rest : List Routine) (w next : World) (statics slots : List Slot)
      → routines_end_within code n (r ∷ rest) w statics ≡ true
      → RunsFor code steps (entered r statics None w) (Halts next slots)
      → routines_end_within code n rest next slots ≡ true
  rest_within n steps r rest w next statics slots e runs =
      let s = entered r statics None w in
      let there : after_lines code steps (Goes s) ≡ Halts next slots = runs_there steps s (Halts next slots) tt runs in
      let ends : after_lines code n (Goes s) ≡ Halts next slots =
      same_end n steps (Goes s) (first_within n r rest w statics e) (ap is_over there) ∙ there in
      subst (λ x. is_over_and x (λ v taken. routines_end_within code n rest v taken) ≡ true) ends e

-- the run for a record that ends does so after a least number of lines
pub record_lines : (code : Code) (input : List ℕ) (statics : List Slot) (budget : ℕ) → RunEnds code input statics budget
    → RecordLines code input statics budget
record_lines code input statics budget r =
    let start = record_start code input statics budget in
    let over = over_of r.ends.end r.outcome r.ends.is in
    least_from (λ n. ends_within code n (Goes start)) r.ends.comes.steps
    (ap is_over (runs_there code r.ends.comes.steps start r.ends.end over r.ends.comes.runs)
    ∙ over_told r.ends.end over)

-- so do the runs of the statics
pub statics_lines : (code : Code) (budget : ℕ) → StaticsRunEnds code budget → StaticsLines code budget
statics_lines code budget r =
    let ends =
    routines_end code code.statics (new_world budget) (undefined_slots (length code.statics)) r.outcome r.ends in
    least_from (λ n. routines_end_within code n code.statics (new_world budget)
    (undefined_slots (length code.statics))) ends.0 ends.1

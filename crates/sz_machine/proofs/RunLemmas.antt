-- From a state that comes to its end each line is there and covers the state, and what it
-- leads to comes to the same end.
use Rattle.std.proofs.Common.{true, ◌≡◌, ◌∙◌, ℕ, zero, suc, ◌<◌, ◌≤◌, length, drop, slice_get, Option, Some, None, unwrap_or, refl, sym, ap, subst}
use Rattle.sz_value.specs.Data.{bytes}
use Rattle.sz_tabs.specs.Data.{EmitDatum}
use Rattle.std.specs.Prelude.{List, [], ◌∷◌}
use Rattle.sz_instr.specs.declared.code.Code.{Code}
use Rattle.sz_instr.specs.declared.line.Line.{Line}
use Rattle.sz_instr.specs.declared.routine.Routine.{Routine}
use Rattle.sz_world_rules.specs.World.{World, new_world, Fault, Outcome, Done, Faulted}
use Rattle.sz_world_rules.specs.Slots.{Slot, undefined_slots}
use Rattle.sz_instr.specs.States.{State, After, Goes, Halts, Faults, Stuck, faults, IsOver, entered}
use Rattle.sz_instr.specs.Covering.{Covers}
use Rattle.sz_instr.specs.Runs.{LeadsBy, GoesOn, RunsFor, ComesTo, EndsRecord, EndsStatic, RoutinesRunTo, RunsTo, record_start, does}
use Rattle.sz_machine.specs.CodeRuns.{Ends, IsOnTheWay, OfEnds, LineDoes, EndsSo}
use Rattle.sz_machine.specs.Ends.{RunEnds, seen_fault}
use Rattle.sz_machine.specs.declared.ends.Fault.{Fault as RunFault}
use Rattle.sz_machine_rows.specs.Acting.{Around, world_of, state_of}
use Rattle.sz_machine.specs.AtLines.{in_record, in_static}
use Rattle.sz_machine_rows.specs.declared.run_state.RunState.{RunState}
use Rattle.sz_machine_rows.specs.declared.run_state.Onward.TheVariants.{On, To, End, Fault as NextFault}
use Rattle.sz_machine.specs.LinesLeft.{line_leads, lines_left, ends_within, routines_end_within, IsOnTheWayWithin}
use Rattle.sz_machine.proofs.LineLemmas.{leads_on, next_within, next_less, first_within, rest_within}
use Rattle.sz_machine.proofs.CoverLemmas.{found_within, drop_found, drop_past}
use Rattle.sz_instr.proofs.OneEnd.{over_of, static_over}

module _ (code : Code) where
  -- a first line, and so many lines that carry on what it leads to
  record First (s : State) (x : After) : Type 0 where
    pub line : Line
    pub found : slice_get code.lines s.at ≡ Some line
    pub covered : Covers code line.instr s
    pub rest : ℕ
    pub goes : GoesOn (does code line s) (λ next. RunsFor code rest next x) x

  by_line : (s : State) (x y : After) (n : ℕ) (o : Option Line) → slice_get code.lines s.at ≡ o → LeadsBy code o s y
      → GoesOn y (λ next. RunsFor code n next x) x → First s x
  by_line s x y n None is leads goes = absurd leads
  by_line s x y n (Some line) is leads goes = record {
    line = line;
    found = is;
    covered = leads.0;
    rest = n;
    goes = subst (λ z. GoesOn z (λ next. RunsFor code n next x) x) (sym leads.1) goes;
  }

  first_of : (s : State) (x : After) → IsOver x → (n : ℕ) → RunsFor code n s x → First s x
  first_of s x over zero e = absurd (subst IsOver (sym e) over)
  first_of s x over (suc n) h = by_line s x h.0 n (slice_get code.lines s.at) refl h.1 h.2

  first : (s : State) (x : After) → IsOver x → ComesTo code s x → First s x
  first s x over comes = first_of s x over comes.steps comes.runs

  -- there is a line
  pub is_within : (s : State) → Ends code s → s.at < length code.lines
  is_within s h = let f = first s h.end h.over h.comes in found_within code.lines s.at f.line f.found

  -- its row covers the state
  pub is_covered : (s : State) (line : Line) → slice_get code.lines s.at ≡ Some line → Ends code s
      → Covers code line.instr s
  is_covered s line is h =
      let f = first s h.end h.over h.comes in
      let same : f.line ≡ line = ap (λ o. unwrap_or o line) (sym f.found ∙ is) in
      subst (λ l. Covers code l.instr s) same f.covered

  -- what the line leads to is carried on
  goes_by : (s : State) (line : Line) (x : After) → slice_get code.lines s.at ≡ Some line → (f : First s x)
      → GoesOn (does code line s) (λ next. RunsFor code f.rest next x) x
  goes_by s line x is f =
      let same : f.line ≡ line = ap (λ o. unwrap_or o line) (sym f.found ∙ is) in
      subst (λ l. GoesOn (does code l s) (λ next. RunsFor code f.rest next x) x) same f.goes

  -- what the state comes to, the next one does
  pub comes_on : (s t : State) (line : Line) → slice_get code.lines s.at ≡ Some line → does code line s ≡ Goes t
      → (x : After) → IsOver x → ComesTo code s x → ComesTo code t x
  comes_on s t line is goes x over comes =
      let f = first s x over comes in
      record {
        steps = f.rest;
        runs = subst (λ y. GoesOn y (λ next. RunsFor code f.rest next x) x) goes (goes_by s line x is f);
      }

  last_goes : (y x : After) (P : State → Type 0) → IsOver y → GoesOn y P x → y ≡ x
  last_goes (Goes t) x P over h = absurd over
  last_goes (Halts w slots) x P over h = h
  last_goes (Faults fault) x P over h = h
  last_goes Stuck x P over h = absurd over

  -- a line that leads to an end leads to the end of the run
  pub last_line : (s : State) (line : Line) (y : After) → slice_get code.lines s.at ≡ Some line
      → does code line s ≡ y → IsOver y → (x : After) → IsOver x → ComesTo code s x → y ≡ x
  last_line s line y is e over_y x over comes =
      let f = first s x over comes in
      last_goes y x (λ next. RunsFor code f.rest next x) over_y
      (subst (λ z. GoesOn z (λ next. RunsFor code f.rest next x) x) e (goes_by s line x is f))

  -- a state on the way comes to its end
  pub ends_still : (start s : State) → Ends code start → IsOnTheWay code start s → Ends code s
  ends_still start s h way = record { end = h.end; over = h.over; comes = way h.end h.over h.comes }

  -- the run goes on
  pub goes_further : (start s t : State) (line : Line) → slice_get code.lines s.at ≡ Some line
      → does code line s ≡ Goes t → IsOnTheWay code start s → IsOnTheWay code start t
  goes_further start s t line is goes way x over comes = comes_on s t line is goes x over (way x over comes)

  -- the run is at its end
  pub is_last : (start s : State) (line : Line) (y : After) → slice_get code.lines s.at ≡ Some line
      → does code line s ≡ y → IsOver y → IsOnTheWay code start s → OfEnds code start (λ x. y ≡ x)
  is_last start s line y is e over_y way x over comes = last_line s line y is e over_y x over (way x over comes)

module _ (code : Code) (start : State) (a b : Around) (old new : RunState) (line : Line) where
  -- the run goes on after the line
  pub goes_on_after : (at : ℕ) → slice_get code.lines a.at ≡ Some line → LineDoes code a b old On new → at ≡ suc b.at
      → IsOnTheWay code start (state_of old a) → IsOnTheWay code start (state_of new (record b { at = at }))
  goes_on_after at is does_so e way =
      subst (λ k. IsOnTheWay code start (state_of new (record b { at = k }))) (sym e)
      (goes_further code start (state_of old a) (state_of new (record b { at = suc b.at })) line is
      (does_so line is) way)

  -- it goes on at a place
  pub goes_on_at : (at to : ℕ) → slice_get code.lines a.at ≡ Some line → LineDoes code a b old (To to) new → at ≡ to
      → IsOnTheWay code start (state_of old a) → IsOnTheWay code start (state_of new (record b { at = at }))
  goes_on_at at to is does_so e way =
      subst (λ k. IsOnTheWay code start (state_of new (record b { at = k }))) (sym e)
      (goes_further code start (state_of old a) (state_of new (record b { at = to })) line is (does_so line is) way)

  next_after : (at : ℕ) → slice_get code.lines a.at ≡ Some line → LineDoes code a b old On new → at ≡ suc b.at
      → line_leads code (state_of old a) ≡ Goes (state_of new (record b { at = at }))
  next_after at is does_so e =
      subst (λ k. line_leads code (state_of old a) ≡ Goes (state_of new (record b { at = k }))) (sym e)
      (leads_on code (state_of old a) (state_of new (record b { at = suc b.at })) line is (does_so line is))

  next_at : (at to : ℕ) → slice_get code.lines a.at ≡ Some line → LineDoes code a b old (To to) new → at ≡ to
      → line_leads code (state_of old a) ≡ Goes (state_of new (record b { at = at }))
  next_at at to is does_so e =
      subst (λ k. line_leads code (state_of old a) ≡ Goes (state_of new (record b { at = k }))) (sym e)
      (leads_on code (state_of old a) (state_of new (record b { at = to })) line is (does_so line is))

  -- where it goes on after the line, it does so within as many lines, and has fewer left
  pub on_within : (n at : ℕ) → slice_get code.lines a.at ≡ Some line → LineDoes code a b old On new → at ≡ suc b.at
      → IsOnTheWayWithin code n start (state_of old a)
      → IsOnTheWayWithin code n start (state_of new (record b { at = at }))
  on_within n at is does_so e h = record {
    way = goes_on_after at is does_so e h.way;
    within = next_within code n (state_of old a) (state_of new (record b { at = at }))
        (next_after at is does_so e) h.within;
  }

  pub on_less : (n at : ℕ) → slice_get code.lines a.at ≡ Some line → LineDoes code a b old On new → at ≡ suc b.at
      → IsOnTheWayWithin code n start (state_of old a)
      → lines_left code n (Goes (state_of new (record b { at = at }))) < lines_left code n (Goes (state_of old a))
  on_less n at is does_so e h =
      next_less code n (state_of old a) (state_of new (record b { at = at })) (next_after at is does_so e) h.within

  -- the same where it goes on at a place
  pub to_within : (n at to : ℕ) → slice_get code.lines a.at ≡ Some line → LineDoes code a b old (To to) new → at ≡ to
      → IsOnTheWayWithin code n start (state_of old a)
      → IsOnTheWayWithin code n start (state_of new (record b { at = at }))
  to_within n at to is does_so e h = record {
    way = goes_on_at at to is does_so e h.way;
    within = next_within code n (state_of old a) (state_of new (record b { at = at }))
        (next_at at to is does_so e) h.within;
  }

  pub to_less : (n at to : ℕ) → slice_get code.lines a.at ≡ Some line → LineDoes code a b old (To to) new → at ≡ to
      → IsOnTheWayWithin code n start (state_of old a)
      → lines_left code n (Goes (state_of new (record b { at = at }))) < lines_left code n (Goes (state_of old a))
  to_less n at to is does_so e h =
      next_less code n (state_of old a) (state_of new (record b { at = at })) (next_at at to is does_so e) h.within

  -- it ends
  pub halts_there : slice_get code.lines a.at ≡ Some line → LineDoes code a b old End new
      → IsOnTheWay code start (state_of old a) → OfEnds code start (λ x. Halts (world_of new) b.statics ≡ x)
  halts_there is does_so way =
      is_last code start (state_of old a) line (Halts (world_of new) b.statics) is (does_so line is) tt way

  -- it ends in a fault
  pub faults_there : (kind : ℕ) → slice_get code.lines a.at ≡ Some line → LineDoes code a b old (NextFault kind) new
      → IsOnTheWay code start (state_of old a) → OfEnds code start (λ x. faults kind line.place ≡ x)
  faults_there kind is does_so way =
      is_last code start (state_of old a) line (faults kind line.place) is (does_so line is) tt way

-- a record's run that halts is done
pub done_there : (w : World) (statics : List Slot) (emits : List EmitDatum) → emits ≡ w.emits → (x : After)
    → Halts w statics ≡ x → EndsRecord x (Done emits)
done_there w statics emits same x e = subst (λ y. EndsRecord y (Done emits)) e (ap (λ l. Done l) same)

-- one that faults has the fault as its outcome
pub faulted_there : (fault : Fault) (x : After) → Faults fault ≡ x → EndsRecord x (Faulted fault)
faulted_there fault x e = subst (λ y. EndsRecord y (Faulted fault)) e refl

-- an end has one outcome
pub one_outcome : (end : After) (r q : Outcome (List EmitDatum)) → EndsRecord end r → EndsRecord end q → q ≡ r
one_outcome (Goes s) r q h k = absurd h
one_outcome (Halts w statics) r q h k = k ∙ sym h
one_outcome (Faults fault) r q h k = k ∙ sym h
one_outcome Stuck r q h k = absurd h

-- a routine has begun in place, with these emits and so many ticks
abbrev pub begun : Routine → World → RunState
begun r w = record {
  operands = [];
  calls = record { locals = undefined_slots r.locals; lists = []; callers = [] };
  emits = w.emits;
  left = w.left;
}

module _ (code : Code) (input : List ℕ) (statics : List Slot) (budget : ℕ) (h : RunState)
    (is : h ≡ begun code.main (new_world budget)) where
  begins_so : (x : After) → ComesTo code (record_start code input statics budget) x
      → ComesTo code (state_of h (in_record code.main.entry statics (Some (bytes input)))) x
  begins_so x comes =
      subst (λ k. ComesTo code (state_of k (in_record code.main.entry statics (Some (bytes input)))) x) (sym is) comes

  -- the run for a record that begins in place comes to its end
  pub record_ends : RunEnds code input statics budget
      → Ends code (state_of h (in_record code.main.entry statics (Some (bytes input))))
  record_ends r = record {
    end = r.ends.end;
    over = over_of r.ends.end r.outcome r.ends.is;
    comes = begins_so r.ends.end r.ends.comes;
  }

  -- it does so within the lines of the run that is asked for
  pub record_within : (n : ℕ) → ends_within code n (Goes (record_start code input statics budget)) ≡ true
      → ends_within code n (Goes (state_of h (in_record code.main.entry statics (Some (bytes input))))) ≡ true
  record_within n e = subst (λ k. ends_within code n
      (Goes (state_of k (in_record code.main.entry statics (Some (bytes input))))) ≡ true) (sym is) e

  -- what it ends with is the outcome of the run
  pub record_outcome : (q o : Outcome (List EmitDatum)) → RunsTo code input statics budget o
      → OfEnds code (state_of h (in_record code.main.entry statics (Some (bytes input)))) (λ x. EndsRecord x q) → q ≡ o
  record_outcome q o r ends = one_outcome r.end o q r.is (ends r.end (over_of r.end o r.is) (begins_so r.end r.comes))

module _ (code : Code) (r : Routine) (rest : List Routine) (w : World) (statics : List Slot)
    (o : Outcome (List Slot)) (h : RunState)
    (is : h ≡ begun r w) (runs : RoutinesRunTo code (r ∷ rest) w statics o) where
  static_over_here : IsOver runs.0
  static_over_here = static_over runs.0 (λ next slots. RoutinesRunTo code rest next slots o) o runs.2

  static_begins_so : ComesTo code (state_of h (in_static r.entry statics)) runs.0
  static_begins_so = subst (λ k. ComesTo code (state_of k (in_static r.entry statics)) runs.0) (sym is) runs.1

  -- the run of a static that begins in place comes to its end
  pub static_ends : Ends code (state_of h (in_static r.entry statics))
  static_ends = record { end = runs.0; over = static_over_here; comes = static_begins_so }

  -- it does so within the lines of the runs that are asked for
  pub static_within : (n : ℕ) → routines_end_within code n (r ∷ rest) w statics ≡ true
      → ends_within code n (Goes (state_of h (in_static r.entry statics))) ≡ true
  static_within n e =
      subst (λ k. ends_within code n (Goes (state_of k (in_static r.entry statics))) ≡ true) (sym is)
      (first_within code n r rest w statics e)

  -- where it halts, so do the others
  pub others_within : (n : ℕ) (new : World) (slots : List Slot)
      → OfEnds code (state_of h (in_static r.entry statics)) (EndsSo None new slots)
      → routines_end_within code n (r ∷ rest) w statics ≡ true → routines_end_within code n rest new slots ≡ true
  others_within n new slots ends e =
      let halts : Halts new slots ≡ runs.0 = ends runs.0 static_over_here static_begins_so in
      rest_within code n runs.1.steps r rest w new statics slots e
      (subst (λ x. RunsFor code runs.1.steps (entered r statics None w) x) (sym halts) runs.1.runs)

  -- the next statics run on
  pub statics_go_on : (new : World) (slots : List Slot)
      → OfEnds code (state_of h (in_static r.entry statics)) (EndsSo None new slots)
      → RoutinesRunTo code rest new slots o
  statics_go_on new slots ends =
      subst (λ end. EndsStatic end (λ next left. RoutinesRunTo code rest next left o) o)
      (sym (ends runs.0 static_over_here static_begins_so)) runs.2

  -- the fault is that of all
  pub statics_fault : (fault : RunFault) (new : World) (slots : List Slot)
      → OfEnds code (state_of h (in_static r.entry statics)) (EndsSo (Some fault) new slots)
      → Faulted (seen_fault fault) ≡ o
  statics_fault fault new slots ends =
      sym (subst (λ end. EndsStatic end (λ next left. RoutinesRunTo code rest next left o) o)
      (sym (ends runs.0 static_over_here static_begins_so)) runs.2)

-- the routine at a place, and those after it
pub at_routine : (code : Code) (i m : ℕ) (r : Routine) (w : World) (statics : List Slot) (o : Outcome (List Slot))
    → slice_get code.statics i ≡ Some r → m ≡ suc i → RoutinesRunTo code (drop i code.statics) w statics o
    → RoutinesRunTo code (r ∷ drop m code.statics) w statics o
at_routine code i m r w statics o is e runs =
    subst (λ l. RoutinesRunTo code l w statics o)
    (drop_found code.statics i r is ∙ ap (λ k. r ∷ drop k code.statics) (sym e)) runs

-- the same of the lines within which they end
pub at_routine_within : (code : Code) (i m n : ℕ) (r : Routine) (w : World) (statics : List Slot)
    → slice_get code.statics i ≡ Some r → m ≡ suc i → routines_end_within code n (drop i code.statics) w statics ≡ true
    → routines_end_within code n (r ∷ drop m code.statics) w statics ≡ true
at_routine_within code i m n r w statics is e within =
    subst (λ l. routines_end_within code n l w statics ≡ true)
    (drop_found code.statics i r is ∙ ap (λ k. r ∷ drop k code.statics) (sym e)) within

-- no routine is left
pub none_left : (code : Code) (i : ℕ) (w : World) (statics : List Slot) (o : Outcome (List Slot))
    → length code.statics ≤ i → RoutinesRunTo code (drop i code.statics) w statics o → Done statics ≡ o
none_left code i w statics o past runs =
    sym (subst (λ l. RoutinesRunTo code l w statics o) (drop_past code.statics i past) runs)

-- How the end of a run is found backward, one line at a time.
use Rattle.std.proofs.Common.{◌≡◌, ℕ, zero, suc, ◌+◌, ◌-◌, ◌≤◌, List, [], ◌∷◌, ◌++◌, length, Bool, true, false, Option, Some, None, refl, sym, ap, subst, arith, length-append}
use Rattle.std.specs.Prelude.{slice_get, nat_lt, if◌then◌else◌}
use Rattle.std.proofs.lemmas.Bool.{ltb-true}
use Rattle.sz_types.specs.Data.{Shape}
use Rattle.sz_types.specs.declared.place.Place.{Place}
use Rattle.sz_instr.specs.declared.instr.Instr.{Instr}
use Rattle.sz_instr.specs.declared.line.Line.{Line}
use Rattle.sz_instr.specs.declared.code.Code.{Code}
use Rattle.sz_world_rules.specs.World.{World, Given, Gives, Stops, Doing, and_then, give, spend, paid}
use Rattle.sz_world_rules.specs.Slots.{Slot}
use Rattle.sz_world_rules.specs.Typed.{Fits}
use Rattle.sz_mean.specs.Expressions.{results}
use Rattle.sz_instr.specs.States.{State, After, Goes, Halts, Faults, Stuck}
use Rattle.sz_instr.specs.Rows.{act}
use Rattle.sz_instr.specs.Covering.{Covers}
use Rattle.sz_instr.specs.Runs.{charge_of, charged, does, LeadsBy, GoesOn, RunsFor, ComesTo}
use Rattle.sz_gen_rules.specs.Tables.{line}
use Rattle.sz_gen_rules.specs.ExpressionCode.{closed}
use Rattle.sz_gen_rules.specs.Runs.{Kept, AllKept, with_all, NextComes, AfterEval, AfterAll, HasAt}

pub has_front : (lines : List Line) (at : ℕ) (a b : List Line) → HasAt lines at (a ++ b) → HasAt lines at a
has_front lines at [] b h = tt
has_front lines at (l ∷ a) b h = (h.0, has_front lines (suc at) a b h.1)

pub has_back : (lines : List Line) (at : ℕ) (a b : List Line) → HasAt lines at (a ++ b) → HasAt lines (at + length a) b
has_back lines at [] b h = let e : at ≡ at + 0 = omega arith in subst (λ n. HasAt lines n b) e h
has_back lines at (l ∷ a) b h =
    let e : suc at + length a ≡ at + length (l ∷ a) = omega arith in
    subst (λ n. HasAt lines n b) e (has_back lines (suc at) a b h.1)

-- the ticks that were there
spent : (n : ℕ) (w after : World) (b : Bool) → nat_lt n w.left ≡ b
    → (if b then Some (record w { left = w.left - suc n }) else None) ≡ Some after → after.left + suc n ≡ w.left
spent n w after true t e =
    let lt = ltb-true n w.left t in
    let same : Some (record w { left = w.left - suc n }) ≡ Some after = e in
    let l : (record w { left = w.left - suc n }) ≡ after = cc in
    let m : w.left - suc n ≡ after.left = ap (λ (v : World). v.left) l in
    omega arith
spent n w after false t e = absurd (cc)

pub spend_left : (n : ℕ) (w after : World) → spend n w ≡ Some after → after.left + n ≡ w.left
spend_left zero w after e =
    let l : w ≡ after = cc in
    let m : w.left ≡ after.left = ap (λ (v : World). v.left) l in
    omega arith
spend_left (suc n) w after e = spent n w after (nat_lt n w.left) refl e

module _ (code : Code) where
  -- a run that goes on from what one line leads to
  goes_on_for : (y x : After) → NextComes code y x → (n : ℕ) × GoesOn y (λ next. RunsFor code n next x) x
  goes_on_for (Goes s) x h = (h.steps, h.runs)
  goes_on_for (Halts w statics) x h = (0, h)
  goes_on_for (Faults fault) x h = (0, h)
  goes_on_for Stuck x h = absurd h

  -- the line at the state's place is what is done
  pub at_line : (s : State) (l : Line) (x : After) → slice_get code.lines s.at ≡ Some l → Covers code l.instr s
      → NextComes code (does code l s) x → ComesTo code s x
  at_line s l x found covered h =
      let on = goes_on_for (does code l s) x h in
      let leads = subst (λ o. LeadsBy code o s (does code l s)) (sym found) (covered, refl) in
      record { steps = suc on.0; runs = (does code l s, leads, on.1) }

  -- what goes on from the first part of an expression, or its fault
  pub after_first : (t u : Shape) (s s1 : State) (end end1 : ℕ) (x : After) (go : Slot → Doing Slot)
      → ((v : Slot) (w : World) → Kept s1.world u v w → AfterEval code t s end x (go v w)
      → ComesTo code (record s1 { at = end1; stack = v ∷ s1.stack; world = w }) x)
      → (r : Given Slot) → AfterEval code t s end x (and_then r go) → AfterEval code u s1 end1 x r
  after_first t u s s1 end end1 x go next (Gives v w) h = λ kept. next v w kept h
  after_first t u s s1 end end1 x go next (Stops fault) h = h

  -- the ticks of a line, and then what it does, or the fault of both sides
  pub after_pay : (t : Shape) (s s1 : State) (end : ℕ) (x : After) (l : Line) (go : Doing Slot) (n : ℕ)
      (m : Option World) → spend n s1.world ≡ m
      → ((w : World) → w.left + n ≡ s1.world.left → AfterEval code t s end x (go w)
      → NextComes code (act code l.instr l.place (record s1 { world = w })) x)
      → AfterEval code t s end x (and_then (paid l.place m) (λ _. go)) → NextComes code (charged code l s1 m) x
  after_pay t s s1 end x l go n None e next h = h
  after_pay t s s1 end x l go n (Some w) e next h = next w (spend_left n s1.world w e) h

  -- the same after several expressions
  pub after_all : (t : Shape) (ts : List Shape) (s s1 : State) (end end1 : ℕ) (x : After) (go : List Slot → Doing Slot)
      → ((xs : List Slot) (w : World) → AllKept s1.world ts xs w → AfterEval code t s end x (go xs w)
      → ComesTo code (record s1 { at = end1; stack = with_all xs s1.stack; world = w }) x)
      → (r : Given (List Slot)) → AfterEval code t s end x (and_then r go) → AfterAll code ts s1 end1 x r
  after_all t ts s s1 end end1 x go next (Gives xs w) h = λ kept. next xs w kept h
  after_all t ts s s1 end end1 x go next (Stops fault) h = h

  -- the slot that the last line of an expression leaves
  pub leaves : (t : Shape) (s : State) (at end : ℕ) (x : After) (v : Slot) (w : World) → suc at ≡ end
      → Kept s.world t v w → AfterEval code t s end x (Gives v w)
      → ComesTo code (record s { at = suc at; stack = v ∷ s.stack; world = w }) x
  leaves t s at end x v w e kept h =
      subst (λ n. ComesTo code (record s { at = n; stack = v ∷ s.stack; world = w }) x) (sym e) (h kept)

-- what an instruction with a tick of its own does in a state: its row covers the state, what the result weighs is
-- added to the tick, and the result, which has the type, stands above the operands that are left
pub record LeavesSlot (code : Code) (i : Instr) (s : State) (stack : List Slot) (added : ℕ) (v : Slot)
    (t : Shape) : Type 0 where
  pub covered : Covers code i s
  pub charge : charge_of code 1 i s ≡ 1 + added
  pub acts : (w : World) (place : Place)
      → act code i place (record s { world = w }) ≡ Goes (record s { at = suc s.at; stack = v ∷ stack; world = w })
  pub typed : Fits v t

-- the line that closes the code of an expression
pub line_after : (code : Code) (at : ℕ) (ca : List Line) (i : Instr) (place : Place)
    → HasAt code.lines at (closed ca i place) → slice_get code.lines (at + length ca) ≡ Some (line i 1 place)
line_after code at ca i place has = (has_back code.lines at ca (line i 1 place ∷ []) has).0

pub end_after : (at end : ℕ) (ca : List Line) (i : Instr) (place : Place) → at + length (closed ca i place) ≡ end
    → suc (at + length ca) ≡ end
end_after at end ca i place e = omega (arith, e, length-append ca (line i 1 place ∷ []))

-- that line takes its ticks and leaves the slot of the expression
pub last_line : (code : Code) (t : Shape) (s : State) (at : ℕ) (stack : List Slot) (w : World) (end : ℕ) (x : After)
    (i : Instr) (place : Place) (added : Slot → ℕ) (v : Slot) → slice_get code.lines at ≡ Some (line i 1 place)
    → LeavesSlot code i (record s { at = at; stack = stack; world = w }) s.stack (added v) v t → suc at ≡ end
    → w.left ≤ s.world.left → AfterEval code t s end x (results place added v w)
    → ComesTo code (record s { at = at; stack = stack; world = w }) x
last_line code t s at stack w end x i place added v found row ends less h =
    let s1 : State = record s { at = at; stack = stack; world = w } in
    let l = line i 1 place in
    at_line code s1 l x found row.covered
    (subst (λ n. NextComes code (charged code l s1 (spend n w)) x) (sym row.charge)
    (after_pay code t s s1 end x l (give v) (1 + added v) (spend (1 + added v) w) refl (λ w1 less1 h1.
    subst (λ y. NextComes code y x) (sym (row.acts w1 place))
    (leaves code t s at end x v w1 ends (record { left = omega (arith, less, less1); typed = row.typed }) h1)) h))

-- What has to hold after each way in which a statement ends, seen from before and from later.
use Rattle.std.proofs.Common.{◌≡◌, ℕ, zero, suc, ◌+◌, ◌≤◌, List, [], ◌∷◌, length, Bool, true, false, Option, Some, None, sym, subst, arith, drop}
use Rattle.sz_types.specs.Data.{Shape}
use Rattle.sz_types.specs.declared.place.Place.{Place}
use Rattle.sz_value.specs.Data.{truth, int, time, str, bytes, array, tuple, mapping}
use Rattle.sz_core.specs.Sound.{Around}
use Rattle.sz_core.specs.Sound.{in_loop as inner}
use Rattle.sz_instr.specs.declared.line.Line.{Line}
use Rattle.sz_instr.specs.declared.code.Code.{Code}
use Rattle.sz_instr.specs.declared.instr.Instr.TheVariants.{Discard}
use Rattle.sz_world_rules.specs.World.{World, Given, Gives, Stops, Doing, and_then, give, spend, paid}
use Rattle.sz_world_rules.specs.Slots.{Slot}
use Rattle.sz_world_rules.specs.Typed.{AllFit}
use Rattle.sz_mean.specs.Endings.{Ending, Normal, Breaks, Continues, Returns, Running, then_run, then_loop, passed_over, chosen}
use Rattle.sz_instr.specs.States.{State, After}
use Rattle.sz_instr.specs.Rows.{act, pass_over, by_truth}
use Rattle.sz_instr.specs.Covering.{CanCount}
use Rattle.sz_instr.specs.Runs.{charged, ComesTo}
use Rattle.sz_gen_rules.specs.Tables.{line}
use Rattle.sz_gen_rules.specs.Runs.{Kept, AllKept, NextComes, AfterEval, AfterAll, with_all, HasAt}
use Rattle.sz_gen_rules.proofs.Steps.{at_line, spend_left}
use Rattle.sz_gen_rules.specs.FreeLines.{no_place}
use Rattle.sz_gen_rules.specs.StatementCode.{Exits, in_loop, discards}
use Rattle.sz_gen_rules.specs.Backward.{IfIn, AreFlags, AfterReturn, AfterExec}

-- the code counts lines as this says, in a table that takes them
pub record Counts (code : Code) (counting : Option ℕ) : Type 0 where
  pub same : code.ignore ≡ counting
  pub can : CanCount code code.ignore

pub if_in : (b : Bool) (P Q : Type 0) → (P → Q) → IfIn b P → IfIn b Q
if_in true P Q f h = f h
if_in false P Q f h = tt

-- what was kept from later on was kept from before, if no ticks came back up to then
pub kept_since : (before later : World) (t : Shape) (v : Slot) (w : World) → later.left ≤ before.left
    → Kept later t v w → Kept before t v w
kept_since before later t v w le k = let le1 = k.left in record { left = omega arith; typed = k.typed }

pub all_kept_since : (before later : World) (ts : List Shape) (vs : List Slot) (w : World) → later.left ≤ before.left
    → AllKept later ts vs w → AllKept before ts vs w
all_kept_since before later ts vs w le k = let le1 = k.left in record { left = omega arith; typed = k.typed }

module _ (code : Code) (types : List Shape) (x : After) where
  pub return_later : (r : Option Shape) (flags : ℕ) (s : State) (at : ℕ) (l : List Slot) (w1 : World)
      → w1.left ≤ s.world.left → (v : Slot) (w : World) → AfterReturn code r flags s x v w
      → AfterReturn code r flags (record s { at = at; locals = l; world = w1 }) x v w
  return_later None flags s at l w1 le v w h = h
  return_later (Some t) flags s at l w1 le v w h = λ k. h (kept_since s.world w1 t v w le k)

  -- the same end, where the code comes to another line first, seen from a later state
  pub ends_at : (a : Around) (out : Exits) (s : State) (end end1 at : ℕ) (l1 : List Slot) (w1 : World)
      → w1.left ≤ s.world.left
      → ((l : List Slot) (w : World) → ComesTo code (record s { at = end; locals = l; world = w }) x
      → ComesTo code (record s { at = end1; locals = l; world = w }) x)
      → (r : Given Ending) → AfterExec code a types out s end x r
      → AfterExec code a types out (record s { at = at; locals = l1; world = w1 }) end1 x r
  ends_at a out s end end1 at l1 w1 le moves (Gives (Normal l) w) h =
      λ k. moves l w (h (all_kept_since s.world w1 types l w le k))
  ends_at a out s end end1 at l1 w1 le moves (Gives (Breaks l) w) h =
      if_in a.loop _ _
      (λ (f : AllKept s.world types l w → ComesTo code (record s { at = out.on_break; locals = l; world = w }) x) k. f
      (all_kept_since s.world w1 types l w le k)) h
  ends_at a out s end end1 at l1 w1 le moves (Gives (Continues l) w) h =
      if_in a.loop _ _ (λ (f : AllKept s.world types l w → ComesTo code (record s {
        at = out.on_continue;
        locals = l;
        world = w;
      }) x) k. f (all_kept_since s.world w1 types l w le k)) h
  ends_at a out s end end1 at l1 w1 le moves (Gives (Returns v) w) h =
      return_later a.result out.flags s at l1 w1 le v w h
  ends_at a out s end end1 at l1 w1 le moves (Stops fault) h = h

  -- the same, where the code comes to that line itself
  pub from_later : (a : Around) (out : Exits) (s : State) (end at : ℕ) (l1 : List Slot) (w1 : World)
      → w1.left ≤ s.world.left → (r : Given Ending) → AfterExec code a types out s end x r
      → AfterExec code a types out (record s { at = at; locals = l1; world = w1 }) end x r
  from_later a out s end at l1 w1 le r h = ends_at a out s end end at l1 w1 le (λ l w k. k) r h

  module _ (a : Around) (out : Exits) where
    -- a statement goes on from the slot of its expression
    pub after_value : (t : Shape) (s s1 : State) (end end1 : ℕ) (go : Slot → Doing Ending)
        → ((v : Slot) (w : World) → Kept s1.world t v w → AfterExec code a types out s end x (go v w)
        → ComesTo code (record s1 { at = end1; stack = v ∷ s1.stack; world = w }) x)
        → (r : Given Slot) → AfterExec code a types out s end x (and_then r go) → AfterEval code t s1 end1 x r
    after_value t s s1 end end1 go next (Gives v w) h = λ k. next v w k h
    after_value t s s1 end end1 go next (Stops fault) h = h

    -- the same from the slot of a part that might have been missing
    pub after_some : (t : Shape) (s s1 : State) (end end1 : ℕ) (go : Option Slot → Doing Ending)
        → ((v : Slot) (w : World) → Kept s1.world t v w → AfterExec code a types out s end x (go (Some v) w)
        → ComesTo code (record s1 { at = end1; stack = v ∷ s1.stack; world = w }) x)
        → (r : Given Slot) → AfterExec code a types out s end x (and_then (and_then r (λ v. give (Some v))) go)
        → AfterEval code t s1 end1 x r
    after_some t s s1 end end1 go next (Gives v w) h = λ k. next v w k h
    after_some t s s1 end end1 go next (Stops fault) h = h

    -- the same from the slots of several expressions
    pub after_values : (ts : List Shape) (s s1 : State) (end end1 : ℕ) (go : List Slot → Doing Ending)
        → ((vs : List Slot) (w : World) → AllKept s1.world ts vs w → AfterExec code a types out s end x (go vs w)
        → ComesTo code (record s1 { at = end1; stack = with_all vs s1.stack; world = w }) x)
        → (r : Given (List Slot)) → AfterExec code a types out s end x (and_then r go) → AfterAll code ts s1 end1 x r
    after_values ts s s1 end end1 go next (Gives vs w) h = λ k. next vs w k h
    after_values ts s s1 end end1 go next (Stops fault) h = h

    -- a statement's ticks, and then what it does
    pub pays_for : (s s1 : State) (end : ℕ) (l : Line) (n : ℕ) (go : Doing Ending) (m : Option World)
        → spend n s1.world ≡ m → ((w : World) → w.left + n ≡ s1.world.left → AfterExec code a types out s end x (go w)
        → NextComes code (act code l.instr l.place (record s1 { world = w })) x)
        → AfterExec code a types out s end x (and_then (paid l.place m) (λ _. go))
        → NextComes code (charged code l s1 m) x
    pays_for s s1 end l n go None e next h = h
    pays_for s s1 end l n go (Some w) e next h = next w (spend_left n s1.world w e) h

    -- where an undefined value was used: a fault, or the line is counted and the run goes past the statement
    pub passes_over : (counting : Option ℕ) → Counts code counting
        → (s : State) (end past at : ℕ) (p : Place) (stack l : List Slot) (w : World)
        → w.left ≤ s.world.left → AllFit l types
        → ((w1 : World) → ComesTo code (record s { at = end; locals = l; world = w1 }) x
        → ComesTo code (record s { at = past; locals = l; world = w1 }) x)
        → AfterExec code a types out s end x (passed_over counting p l w)
        → NextComes code
        (pass_over code.ignore p (record s { at = at; stack = stack; locals = l; world = w }) past s.stack) x
    passes_over counting counts s end past at p stack l w le fit reaches h =
        subst (λ c. NextComes code
        (pass_over c p (record s { at = at; stack = stack; locals = l; world = w }) past s.stack) x) (sym counts.same)
        (by counting h)
      where
        by : (c : Option ℕ) → AfterExec code a types out s end x (passed_over c p l w)
            → NextComes code (pass_over c p (record s { at = at; stack = stack; locals = l; world = w }) past s.stack) x
        by None h1 = h1
        by (Some table) h1 = reaches _ (h1 (record { left = le; typed = fit }))

    -- the first of three ways where the slot is true, the second where it is false, the third where it is undefined
    pub chosen_by : (s : State) (end : ℕ) (w : World) (first second unknown : Doing Ending) (one other past : After)
        → (AfterExec code a types out s end x (first w) → NextComes code one x)
        → (AfterExec code a types out s end x (second w) → NextComes code other x)
        → (AfterExec code a types out s end x (unknown w) → NextComes code past x)
        → (v : Slot) → AfterExec code a types out s end x (chosen v first second unknown w)
        → NextComes code (by_truth v one other past) x
    chosen_by s end w first second unknown one other past f g u None h = u h
    chosen_by s end w first second unknown one other past f g u (Some (truth true)) h = f h
    chosen_by s end w first second unknown one other past f g u (Some (truth false)) h = g h
    chosen_by s end w first second unknown one other past f g u (Some (int n)) h = g h
    chosen_by s end w first second unknown one other past f g u (Some (time n)) h = g h
    chosen_by s end w first second unknown one other past f g u (Some (str b)) h = g h
    chosen_by s end w first second unknown one other past f g u (Some (bytes b)) h = g h
    chosen_by s end w first second unknown one other past f g u (Some (array ds)) h = g h
    chosen_by s end w first second unknown one other past f g u (Some (tuple ds)) h = g h
    chosen_by s end w first second unknown one other past f g u (Some (mapping es)) h = g h

    -- what follows a statement that begins in a later state
    pub after_then : (s : State) (end end1 at : ℕ) (l1 : List Slot) (w1 : World) (next : Running)
        → w1.left ≤ s.world.left
        → ((l : List Slot) (w : World) → AllKept w1 types l w → AfterExec code a types out s end x (next l w)
        → ComesTo code (record s { at = end1; locals = l; world = w }) x)
        → (r : Given Ending) → AfterExec code a types out s end x (and_then r (λ e. then_run e next))
        → AfterExec code a types out (record s { at = at; locals = l1; world = w1 }) end1 x r
    after_then s end end1 at l1 w1 next le goes_on (Gives (Normal l) w) h = λ k. goes_on l w k h
    after_then s end end1 at l1 w1 next le goes_on (Gives (Breaks l) w) h =
        from_later a out s end1 at l1 w1 le (Gives (Breaks l) w) h
    after_then s end end1 at l1 w1 next le goes_on (Gives (Continues l) w) h =
        from_later a out s end1 at l1 w1 le (Gives (Continues l) w) h
    after_then s end end1 at l1 w1 next le goes_on (Gives (Returns v) w) h =
        from_later a out s end1 at l1 w1 le (Gives (Returns v) w) h
    after_then s end end1 at l1 w1 next le goes_on (Stops fault) h = h

    -- what follows the body of a loop, where it comes to its end, and where it is left by `break` or by `continue`
    pub after_body : (s : State) (end end1 at on_break on_continue : ℕ) (l1 : List Slot) (w1 : World) (next : Running)
        → w1.left ≤ s.world.left
        → ((l : List Slot) (w : World) → AllKept w1 types l w → AfterExec code a types out s end x (next l w)
        → ComesTo code (record s { at = end1; locals = l; world = w }) x)
        → ((l : List Slot) (w : World) → ComesTo code (record s { at = end; locals = l; world = w }) x
        → ComesTo code (record s { at = on_break; locals = l; world = w }) x)
        → ((l : List Slot) (w : World) → AllKept w1 types l w → AfterExec code a types out s end x (next l w)
        → ComesTo code (record s { at = on_continue; locals = l; world = w }) x)
        → (r : Given Ending) → AfterExec code a types out s end x (and_then r (λ e. then_loop e next))
        → AfterExec code (inner a) types (in_loop out on_break on_continue)
        (record s { at = at; locals = l1; world = w1 }) end1 x r
    after_body s end end1 at on_break on_continue l1 w1 next le goes_on breaks continues (Gives (Normal l) w) h =
        λ k. goes_on l w k h
    after_body s end end1 at on_break on_continue l1 w1 next le goes_on breaks continues (Gives (Breaks l) w) h =
        λ k. breaks l w (h (all_kept_since s.world w1 types l w le k))
    after_body s end end1 at on_break on_continue l1 w1 next le goes_on breaks continues (Gives (Continues l) w) h =
        λ k. continues l w k h
    after_body s end end1 at on_break on_continue l1 w1 next le goes_on breaks continues (Gives (Returns v) w) h =
        return_later a.result out.flags s at l1 w1 le v w h
    after_body s end end1 at on_break on_continue l1 w1 next le goes_on breaks continues (Stops fault) h = h

  -- flags are taken off the stack
  pub discards_run : (n : ℕ) (s : State) → AreFlags n s.stack → HasAt code.lines s.at (discards n)
      → ComesTo code (record s { at = s.at + length (discards n); stack = drop n s.stack }) x → ComesTo code s x
  discards_run n s flags has h = from n s.at s.stack flags has h
    where
      from : (n at : ℕ) (stack : List Slot) → AreFlags n stack → HasAt code.lines at (discards n)
          → ComesTo code (record s { at = at + length (discards n); stack = drop n stack }) x
          → ComesTo code (record s { at = at; stack = stack }) x
      from zero at stack f has h = let same : at + 0 ≡ at = omega arith in
          subst (λ k. ComesTo code (record s { at = k; stack = stack }) x) same h
      from (suc n) at [] f has h = absurd f
      from (suc n) at (None ∷ stack) f has h = absurd f
      from (suc n) at (Some d ∷ stack) f has h =
          let same : at + length (discards (suc n)) ≡ suc at + length (discards n) = omega arith in
          at_line code (record s { at = at; stack = Some d ∷ stack }) (line Discard 0 no_place) x has.0 tt
          (from n
          (suc at) stack f has.1 (subst (λ k. ComesTo code (record s { at = k; stack = drop n stack }) x) same h))

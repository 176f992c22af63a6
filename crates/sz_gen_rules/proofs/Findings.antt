-- What has to hold after each way in which a search ends, and what goes on from there.
use Rattle.std.proofs.Common.{◌≡◌, ℕ, ◌+◌, ◌≤◌, List, ◌∷◌, true, false, Option, Some, None, sym, subst, arith}
use Rattle.sz_types.specs.Data.{Shape}
use Rattle.sz_value.specs.Data.{truth, int, time, str, bytes, array, tuple, mapping}
use Rattle.sz_core.specs.Sound.{Around, out_of_loops}
use Rattle.sz_instr.specs.declared.line.Line.{Line}
use Rattle.sz_instr.specs.declared.code.Code.{Code}
use Rattle.sz_world_rules.specs.World.{World, Given, Gives, Stops, Doing, and_then, give, spend, paid}
use Rattle.sz_world_rules.specs.Slots.{Slot}
use Rattle.sz_mean.specs.Endings.{Ending, Normal, Breaks, Continues, Returns}
use Rattle.sz_mean.specs.Search.{Finding, Succeeds, Misses, Leaves, Searching, and_also, if_met, if_refuted, succeeded, ending_of}
use Rattle.sz_instr.specs.States.{State, After, Faults}
use Rattle.sz_instr.specs.Rows.{act, if_true, if_false}
use Rattle.sz_instr.specs.Runs.{charged, ComesTo}
use Rattle.sz_gen_rules.specs.Runs.{Kept, AllKept, NextComes, AfterEval}
use Rattle.sz_gen_rules.proofs.Steps.{spend_left}
use Rattle.sz_gen_rules.specs.StatementCode.{Exits, in_search}
use Rattle.sz_gen_rules.specs.Backward.{AfterReturn, AfterExec}
use Rattle.sz_gen_rules.proofs.Outcomes.{all_kept_since, return_later}

-- the run comes to x from what a search gives, where the code goes on at one line if the search succeeded and at
-- another if it failed
abbrev pub AfterFinding : Code → Option Shape → List Shape → (flags : ℕ) → State → (end fail : ℕ) → After
    → Given Finding → Type 0
AfterFinding code result types flags s end fail x (Gives (Succeeds locals) w) =
    AllKept s.world types locals w → ComesTo code (record s { at = end; locals = locals; world = w }) x
AfterFinding code result types flags s end fail x (Gives (Misses locals) w) =
    AllKept s.world types locals w → ComesTo code (record s { at = fail; locals = locals; world = w }) x
AfterFinding code result types flags s end fail x (Gives (Leaves y) w) = AfterReturn code result flags s x y w
AfterFinding code result types flags s end fail x (Stops fault) = Faults fault ≡ x

module _ (code : Code) (result : Option Shape) (types : List Shape) (x : After) where
  -- the same, seen from a later state
  pub finding_later : (flags : ℕ) (s : State) (end fail at : ℕ) (l1 : List Slot) (w1 : World) → w1.left ≤ s.world.left
      → (r : Given Finding) → AfterFinding code result types flags s end fail x r
      → AfterFinding code result types flags (record s { at = at; locals = l1; world = w1 }) end fail x r
  finding_later flags s end fail at l1 w1 le (Gives (Succeeds l) w) h =
      λ k. h (all_kept_since s.world w1 types l w le k)
  finding_later flags s end fail at l1 w1 le (Gives (Misses l) w) h = λ k. h (all_kept_since s.world w1 types l w le k)
  finding_later flags s end fail at l1 w1 le (Gives (Leaves y) w) h =
      return_later code types x result flags s at l1 w1 le y w h
  finding_later flags s end fail at l1 w1 le (Stops fault) h = h

  module _ (flags : ℕ) (s : State) (end fail : ℕ) where
    -- a search goes on from the slot of an expression
    pub after_slot : (t : Shape) (s1 : State) (end1 : ℕ) (go : Slot → Doing Finding)
        → ((v : Slot) (w : World) → Kept s1.world t v w → AfterFinding code result types flags s end fail x (go v w)
        → ComesTo code (record s1 { at = end1; stack = v ∷ s1.stack; world = w }) x)
        → (r : Given Slot) → AfterFinding code result types flags s end fail x (and_then r go)
        → AfterEval code t s1 end1 x r
    after_slot t s1 end1 go next (Gives v w) h = λ k. next v w k h
    after_slot t s1 end1 go next (Stops fault) h = h

    -- the tick of a candidate, and then the search with it and what comes after
    pub pays_to_try : (s1 : State) (l : Line) (first : Doing Finding) (go : Finding → Doing Finding)
        (m : Option World) → spend 1 s1.world ≡ m → ((w : World) → w.left + 1 ≡ s1.world.left
        → AfterFinding code result types flags s end fail x (and_then (first w) go)
        → NextComes code (act code l.instr l.place (record s1 { world = w })) x)
        → AfterFinding code result types flags s end fail x (and_then (and_then (paid l.place m) (λ _. first)) go)
        → NextComes code (charged code l s1 m) x
    pays_to_try s1 l first go None e next h = h
    pays_to_try s1 l first go (Some w) e next h = next w (spend_left 1 s1.world w e) h

    -- the first of two ways where the slot is true, else the second
    pub met_by : (w : World) (first second : Doing Finding) (one other : After)
        → (AfterFinding code result types flags s end fail x (first w) → NextComes code one x)
        → (AfterFinding code result types flags s end fail x (second w) → NextComes code other x)
        → (v : Slot) → AfterFinding code result types flags s end fail x (if_met v first second w)
        → NextComes code (if_true v one other) x
    met_by w first second one other f g None h = g h
    met_by w first second one other f g (Some (truth true)) h = f h
    met_by w first second one other f g (Some (truth false)) h = g h
    met_by w first second one other f g (Some (int n)) h = g h
    met_by w first second one other f g (Some (time n)) h = g h
    met_by w first second one other f g (Some (str b)) h = g h
    met_by w first second one other f g (Some (bytes b)) h = g h
    met_by w first second one other f g (Some (array ds)) h = g h
    met_by w first second one other f g (Some (tuple ds)) h = g h
    met_by w first second one other f g (Some (mapping es)) h = g h

    -- the first of two ways where the slot is false, else the second
    pub refuted_by : (w : World) (first second : Doing Finding) (one other : After)
        → (AfterFinding code result types flags s end fail x (first w) → NextComes code one x)
        → (AfterFinding code result types flags s end fail x (second w) → NextComes code other x)
        → (v : Slot) → AfterFinding code result types flags s end fail x (if_refuted v first second w)
        → NextComes code (if_false v one other) x
    refuted_by w first second one other f g None h = g h
    refuted_by w first second one other f g (Some (truth true)) h = g h
    refuted_by w first second one other f g (Some (truth false)) h = f h
    refuted_by w first second one other f g (Some (int n)) h = g h
    refuted_by w first second one other f g (Some (time n)) h = g h
    refuted_by w first second one other f g (Some (str b)) h = g h
    refuted_by w first second one other f g (Some (bytes b)) h = g h
    refuted_by w first second one other f g (Some (array ds)) h = g h
    refuted_by w first second one other f g (Some (tuple ds)) h = g h
    refuted_by w first second one other f g (Some (mapping es)) h = g h

    -- after a part of a search that succeeded another part follows; where it failed, the whole has
    pub after_part : (end1 at : ℕ) (next : Searching)
        → ((l : List Slot) (w : World) → AllKept s.world types l w
        → AfterFinding code result types flags s end fail x (next l w)
        → ComesTo code (record s { at = end1; locals = l; world = w }) x)
        → (r : Given Finding) → AfterFinding code result types flags s end fail x (and_then r (λ f. and_also f next))
        → AfterFinding code result types flags (record s { at = at }) end1 fail x r
    after_part end1 at next goes_on (Gives (Succeeds l) w) h = λ k. goes_on l w k h
    after_part end1 at next goes_on (Gives (Misses l) w) h = h
    after_part end1 at next goes_on (Gives (Leaves y) w) h =
        return_later code types x result flags s at s.locals s.world (omega arith) y w h
    after_part end1 at next goes_on (Stops fault) h = h

    -- the search succeeds with the end of the statement inside, which begins in a later state
    pub after_inside : (a : Around) (out : Exits) (at : ℕ) (l1 : List Slot) (w1 : World) → w1.left ≤ s.world.left
        → a.result ≡ result → (r : Given Ending)
        → AfterFinding code result types flags s end fail x (and_then r succeeded)
        → AfterExec code (out_of_loops a) types (in_search out flags)
        (record s { at = at; locals = l1; world = w1 }) end x r
    after_inside a out at l1 w1 le same (Gives (Normal l) w) h = λ k. h (all_kept_since s.world w1 types l w le k)
    after_inside a out at l1 w1 le same (Gives (Breaks l) w) h = tt
    after_inside a out at l1 w1 le same (Gives (Continues l) w) h = tt
    after_inside a out at l1 w1 le same (Gives (Returns y) w) h =
        subst (λ r. AfterReturn code r flags (record s { at = at; locals = l1; world = w1 }) x y w) (sym same)
        (return_later code types x result flags s at l1 w1 le y w h)
    after_inside a out at l1 w1 le same (Stops fault) h = h

  -- the whole statement comes to its end, whether the search succeeded or failed
  pub after_search : (a : Around) (out : Exits) (s : State) (end fail at : ℕ) → a.result ≡ result
      → ((l : List Slot) (w : World) → ComesTo code (record s { at = end; locals = l; world = w }) x
      → ComesTo code (record s { at = fail; locals = l; world = w }) x)
      → (r : Given Finding) → AfterExec code a types out s end x (and_then r (λ f. give (ending_of f)))
      → AfterFinding code result types out.flags (record s { at = at }) end fail x r
  after_search a out s end fail at same passes (Gives (Succeeds l) w) h = h
  after_search a out s end fail at same passes (Gives (Misses l) w) h = λ k. passes l w (h k)
  after_search a out s end fail at same passes (Gives (Leaves y) w) h =
      return_later code types x result out.flags s at s.locals s.world (omega arith) y w
      (subst (λ r. AfterReturn code r out.flags s x y w) same h)
  after_search a out s end fail at same passes (Stops fault) h = h

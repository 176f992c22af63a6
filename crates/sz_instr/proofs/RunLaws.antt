-- What holds of a world all along a run holds of that to which the run comes.
use Rattle.std.proofs.Common.{◌≡◌, ℕ, zero, suc, Bool, true, false, Option, Some, None, List, [], ◌∷◌, refl, subst, nat_lt}
use Rattle.std.specs.Prelude.{slice_get, if◌then◌else◌, drop, length}
use Rattle.sz_types.specs.declared.place.Place.{Place}
use Rattle.sz_value.specs.Data.{Datum, truth, int, time, str, bytes, array, tuple, mapping}
use Rattle.sz_tabs.specs.Data.{EmitDatum}
use Rattle.sz_instr.specs.declared.instr.Instr.{Instr}
use Rattle.sz_instr.specs.declared.instr.Instr.TheVariants.{Push, Local, Static, Input, Keep, KeepStatic, Clear, Store, Unary, Binary, Apply}
use Rattle.sz_instr.specs.declared.instr.Instr.TheVariants.{Convert, Decode, MakeArray, MakeTuple, MakeMap, Index, Slice, Field, Def, Tick, Jump, Test}
use Rattle.sz_instr.specs.declared.instr.Instr.TheVariants.{AndTest, OrTest, Call, Return, EndRecord, Discard, Emit, Enter, Next, Leave, Meets, Fails}
use Rattle.sz_instr.specs.declared.routine.Routine.{Routine}
use Rattle.sz_instr.specs.declared.line.Line.{Line}
use Rattle.sz_instr.specs.declared.code.Code.{Code}
use Rattle.sz_world_rules.specs.World.{World, new_world, spend, Done, calls_too_deep, most_open_calls}
use Rattle.sz_world_rules.specs.Slots.{Slot, all_defined}
use Rattle.sz_world_rules.specs.Emits.{emit_of, line_emit, emit_or_line, with_emit}
use Rattle.sz_world_rules.specs.Stores.{Stored, Holds, Undefined, Outside}
use Rattle.sz_instr.specs.States.{Caller, State, After, Goes, Halts, Faults, Stuck, faults, on_one, on_two, on_three, popped}
use Rattle.sz_instr.specs.Rows.{pass_over, after_store, by_truth, if_true, if_false, if_defined, enter}
use Rattle.sz_instr.specs.Rows.{call_with, call_routine, leave_to, next_candidate, drop_list, emit_parts, act}
use Rattle.sz_instr.specs.Covering.{OnOne, IfUndefined, CanCount, Covers}
use Rattle.sz_instr.specs.Runs.{charged, does, charge_of, LeadsBy, GoesOn, RunsFor, EndsRecord, RunsTo}

-- what an emit with these operands adds
abbrev pub emitted : Code → ℕ → ℕ → Bool → Place → State → Option EmitDatum
emitted code table indexes weighted place s =
    emit_or_line (emit_of table (emit_parts indexes weighted s.stack)) code.ignore place

-- what each line keeps of a world: where it takes its ticks, where it counts a line, and where it emits for what it
-- took
pub record IsKept (code : Code) (Good : World → Type 0) : Type 0 where
  pub spent : (ticks : ℕ) (w after : World) → Good w → spend ticks w ≡ Some after → Good after
  pub counts : (table : ℕ) (place : Place) (w : World) → CanCount code (Some table) → Good w
      → Good (with_emit (Some (line_emit table place)) w)
  pub emits : (table indexes : ℕ) (weighted : Bool) (place : Place) (charge : ℕ) (s : State) (after : World)
      → Covers code (Emit table indexes weighted) s
      → Good s.world → spend (charge_of code charge (Emit table indexes weighted) s) s.world ≡ Some after → Good after
      → Good (with_emit (emitted code table indexes weighted place s) after)

module _ (code : Code) (Good : World → Type 0) (kept : IsKept code Good) where
  -- so is the world of what an instruction leads to
  abbrev GoodAfter : After → Type 0
  GoodAfter (Goes s) = Good s.world
  GoodAfter (Halts w statics) = Good w
  GoodAfter (Faults fault) = Unit {0}
  GoodAfter Stuck = Unit {0}

  on_top : (stack : List Slot) (go : Slot → List Slot → After)
      → ((x : Slot) (rest : List Slot) → GoodAfter (go x rest)) → GoodAfter (on_one stack go)
  on_top [] go good = tt
  on_top (x ∷ rest) go good = good x rest

  on_top_two : (stack : List Slot) (go : Slot → Slot → List Slot → After)
      → ((x y : Slot) (rest : List Slot) → GoodAfter (go x y rest))
      → GoodAfter (on_two stack go)
  on_top_two [] go good = tt
  on_top_two (y ∷ []) go good = tt
  on_top_two (y ∷ x ∷ rest) go good = good x y rest

  on_top_three : (stack : List Slot) (go : Slot → Slot → Slot → List Slot → After)
      → ((x y z : Slot) (rest : List Slot) → GoodAfter (go x y z rest))
      → GoodAfter (on_three stack go)
  on_top_three [] go good = tt
  on_top_three (z ∷ []) go good = tt
  on_top_three (z ∷ y ∷ []) go good = tt
  on_top_three (z ∷ y ∷ x ∷ rest) go good = good x y z rest

  one_of_three : (x : Slot) (first second unknown : After) → GoodAfter first → GoodAfter second → GoodAfter unknown
      → GoodAfter (by_truth x first second unknown)
  one_of_three None first second unknown f s u = u
  one_of_three (Some (truth true)) first second unknown f s u = f
  one_of_three (Some (truth false)) first second unknown f s u = s
  one_of_three (Some (int n)) first second unknown f s u = s
  one_of_three (Some (time n)) first second unknown f s u = s
  one_of_three (Some (str n)) first second unknown f s u = s
  one_of_three (Some (bytes n)) first second unknown f s u = s
  one_of_three (Some (array n)) first second unknown f s u = s
  one_of_three (Some (tuple n)) first second unknown f s u = s
  one_of_three (Some (mapping n)) first second unknown f s u = s

  -- the line that is counted where a statement is passed over
  passed_good : (ignore : Option ℕ) (place : Place) (s : State) (to : ℕ) (stack : List Slot)
      → CanCount code ignore → Good s.world → GoodAfter (pass_over ignore place s to stack)
  passed_good None place s to stack can all = tt
  passed_good (Some table) place s to stack can all = kept.counts table place s.world can all

  either_true : (x : Slot) (first second : After) → GoodAfter first → GoodAfter second
      → GoodAfter (if_true x first second)
  either_true None first second f s = s
  either_true (Some (truth true)) first second f s = f
  either_true (Some (truth false)) first second f s = s
  either_true (Some (int n)) first second f s = s
  either_true (Some (time n)) first second f s = s
  either_true (Some (str n)) first second f s = s
  either_true (Some (bytes n)) first second f s = s
  either_true (Some (array n)) first second f s = s
  either_true (Some (tuple n)) first second f s = s
  either_true (Some (mapping n)) first second f s = s

  either_false : (x : Slot) (first second : After) → GoodAfter first → GoodAfter second
      → GoodAfter (if_false x first second)
  either_false None first second f s = s
  either_false (Some (truth true)) first second f s = s
  either_false (Some (truth false)) first second f s = f
  either_false (Some (int n)) first second f s = s
  either_false (Some (time n)) first second f s = s
  either_false (Some (str n)) first second f s = s
  either_false (Some (bytes n)) first second f s = s
  either_false (Some (array n)) first second f s = s
  either_false (Some (tuple n)) first second f s = s
  either_false (Some (mapping n)) first second f s = s

  discarded_good : (x : Slot) (next : After) (ignore : Option ℕ) (place : Place) (s : State) (to : ℕ)
      (stack : List Slot) → IfUndefined (CanCount code ignore) x → Good s.world → GoodAfter next
      → GoodAfter (if_defined x next (pass_over ignore place s to stack))
  discarded_good None next ignore place s to stack can all f = passed_good ignore place s to stack can all
  discarded_good (Some d) next ignore place s to stack can all f = f

  stored_good : (found : Stored) (place : Place) (n : ℕ) (s : State) (stack : List Slot)
      → CanCount code code.ignore → Good s.world → GoodAfter (after_store code.ignore found place n s stack)
  stored_good (Holds d) place n s stack can all = all
  stored_good Undefined place n s stack can all = passed_good code.ignore place s (suc s.at) stack can all
  stored_good Outside place n s stack can all = tt

  -- what is known of the topmost operand
  on_top_with : (stack : List Slot) (P : Slot → Type 0) (go : Slot → List Slot → After) → OnOne stack P
      → ((x : Slot) (rest : List Slot) → P x → GoodAfter (go x rest)) → GoodAfter (on_one stack go)
  on_top_with [] P go has good = absurd has
  on_top_with (x ∷ rest) P go has good = good x rest has

  called_good : (found : Option Routine) (place : Place) (s : State) → Good s.world
      → GoodAfter (call_routine found place s)
  called_good None place s all = tt
  called_good (Some r) place s all = by_arguments (all_defined (popped r.params s.stack))
    where
      by_test : (b : Bool) (arguments : List Datum) (stack : List Slot)
          → GoodAfter (if b then enter r arguments s stack else faults calls_too_deep place)
      by_test true arguments stack = all
      by_test false arguments stack = tt

      by_arguments : (arguments : Option (List Datum))
          → GoodAfter (call_with arguments r place s (drop r.params s.stack))
      by_arguments None = all
      by_arguments (Some arguments) =
          by_test (nat_lt (length s.callers) most_open_calls) arguments (drop r.params s.stack)

  left_good : (callers : List Caller) (x : Slot) (s : State) (stack : List Slot) → Good s.world
      → GoodAfter (leave_to callers x s stack)
  left_good [] x s stack all = tt
  left_good (c ∷ callers) x s stack all = all

  next_good : (lists : List (List Datum)) (n to : ℕ) (s : State) → Good s.world
      → GoodAfter (next_candidate lists n to s)
  next_good [] n to s all = tt
  next_good ([] ∷ lists) n to s all = all
  next_good ((c ∷ cs) ∷ lists) n to s all = all

  dropped_good : (lists : List (List Datum)) (s : State) → Good s.world → GoodAfter (drop_list lists s)
  dropped_good [] s all = tt
  dropped_good (cs ∷ lists) s all = all

  -- what an instruction leads to
  act_good : (instr : Instr) (place : Place) (charge : ℕ) (s : State) (w : World) → Covers code instr s → Good s.world
      → spend (charge_of code charge instr s) s.world ≡ Some w → Good w
      → GoodAfter (act code instr place (record s { world = w }))
  act_good (Push constant) place charge s w covers before spent all = all
  act_good (Local n) place charge s w covers before spent all = all
  act_good (Static n) place charge s w covers before spent all = all
  act_good Input place charge s w covers before spent all = all
  act_good (Keep n) place charge s w covers before spent all = on_top s.stack _ (λ x rest. all)
  act_good (KeepStatic n) place charge s w covers before spent all = on_top s.stack _ (λ x rest. all)
  act_good (Clear n) place charge s w covers before spent all = all
  act_good (Store n path) place charge s w covers before spent all =
      on_top s.stack _ (λ x rest. stored_good _ place n (record s { world = w }) _ covers.2 all)
  act_good (Unary op) place charge s w covers before spent all = on_top s.stack _ (λ x rest. all)
  act_good (Binary op) place charge s w covers before spent all = on_top_two s.stack _ (λ x y rest. all)
  act_good (Apply b) place charge s w covers before spent all = all
  act_good (Convert ty) place charge s w covers before spent all = on_top s.stack _ (λ x rest. all)
  act_good (Decode ty) place charge s w covers before spent all = on_top s.stack _ (λ x rest. all)
  act_good (MakeArray count) place charge s w covers before spent all = all
  act_good (MakeTuple count) place charge s w covers before spent all = all
  act_good (MakeMap count) place charge s w covers before spent all = all
  act_good Index place charge s w covers before spent all = on_top_two s.stack _ (λ x y rest. all)
  act_good Slice place charge s w covers before spent all = on_top_three s.stack _ (λ x y z rest. all)
  act_good (Field n) place charge s w covers before spent all = on_top s.stack _ (λ x rest. all)
  act_good Def place charge s w covers before spent all = on_top s.stack _ (λ x rest. all)
  act_good Tick place charge s w covers before spent all = all
  act_good (Jump to) place charge s w covers before spent all = all
  act_good (Test to past) place charge s w covers before spent all =
      on_top s.stack _ (λ x rest.
      one_of_three x _ _ _ all all (passed_good code.ignore place (record s { world = w }) past rest covers.1 all))
  act_good (AndTest to) place charge s w covers before spent all =
      on_top s.stack _ (λ x rest. either_true x _ _ all all)
  act_good (OrTest to) place charge s w covers before spent all =
      on_top s.stack _ (λ x rest. either_false x _ _ all all)
  act_good (Call function) place charge s w covers before spent all =
      called_good (slice_get code.functions function) place (record s { world = w }) all
  act_good Return place charge s w covers before spent all =
      on_top s.stack _ (λ x rest. left_good s.callers x (record s { world = w }) rest all)
  act_good EndRecord place charge s w covers before spent all = all
  act_good Discard place charge s w covers before spent all =
      on_top_with s.stack _ _ covers
      (λ x rest can. discarded_good x _ code.ignore place (record s { world = w }) (suc s.at) rest can all all)
  act_good (Emit table indexes weighted) place charge s w covers before spent all =
      kept.emits table indexes weighted place charge s w covers before spent all
  act_good (Enter slice) place charge s w covers before spent all = on_top s.stack _ (λ x rest. all)
  act_good (Next n to) place charge s w covers before spent all = next_good s.lists n to (record s { world = w }) all
  act_good Leave place charge s w covers before spent all = dropped_good s.lists (record s { world = w }) all
  act_good (Meets to) place charge s w covers before spent all = on_top s.stack _ (λ x rest. either_true x _ _ all all)
  act_good (Fails to) place charge s w covers before spent all = on_top s.stack _ (λ x rest. either_false x _ _ all all)

  line_good : (line : Line) (s : State) → Covers code line.instr s → Good s.world → GoodAfter (does code line s)
  line_good line s covers all = by_spent (spend (charge_of code line.charge line.instr s) s.world) refl
    where
      by_spent : (spent : Option World) → spend (charge_of code line.charge line.instr s) s.world ≡ spent
          → GoodAfter (charged code line s spent)
      by_spent None is = tt
      by_spent (Some w) is =
          act_good line.instr line.place line.charge s w covers all is (kept.spent _ s.world w all is)

  leads_good : (found : Option Line) (s : State) (x : After) → LeadsBy code found s x → Good s.world → GoodAfter x
  leads_good None s x leads all = absurd leads
  leads_good (Some line) s x leads all = subst GoodAfter leads.1 (line_good line s leads.0 all)

  -- what goes on after a line
  good_on : (y x : After) (next : State → Type 0) → ((s : State) → next s → Good s.world → GoodAfter x)
      → GoesOn y next x → GoodAfter y → GoodAfter x
  good_on (Goes s) x next after goes good = after s goes good
  good_on (Halts w statics) x next after goes good = subst GoodAfter goes good
  good_on (Faults fault) x next after goes good = subst GoodAfter goes good
  good_on Stuck x next after goes good = absurd goes

  -- whatever a run comes to
  runs_good : (n : ℕ) (s : State) (x : After) → RunsFor code n s x → Good s.world → GoodAfter x
  runs_good zero s x runs all = subst GoodAfter runs all
  runs_good (suc n) s x runs all =
      good_on runs.0 x (λ next. RunsFor code n next x) (λ next goes good. runs_good n next x goes good) runs.2
      (leads_good (slice_get code.lines s.at) s runs.0 runs.1 all)

  -- what the run for a record emits is that of a good world, if it begins in one
  pub done_good : (input : List ℕ) (statics : List Slot) (budget : ℕ) (emits : List EmitDatum) → Good (new_world budget)
      → RunsTo code input statics budget (Done emits) → (w : World) × (w.emits ≡ emits) × Good w
  done_good input statics budget emits begins runs =
      by_end runs.end runs.is (runs_good runs.comes.steps _ runs.end runs.comes.runs begins)
    where
      by_end : (end : After) → EndsRecord end (Done emits) → GoodAfter end → (w : World) × (w.emits ≡ emits) × Good w
      by_end (Goes s) is good = absurd is
      by_end (Halts w statics) is good = (w, (let same : w.emits ≡ emits = cc in same), good)
      by_end (Faults fault) is good = absurd (let same = is in cc)
      by_end Stuck is good = absurd is

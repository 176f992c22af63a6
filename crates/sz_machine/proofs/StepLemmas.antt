-- A line in two steps: its charge is taken, and then its instruction takes the weight of its result and acts.
use Rattle.std.proofs.Common.{◌≡◌, ◌∙◌, ℕ, ◌+◌, ◌<◌, length, slice_get, unwrap_or, Option, Some, None, Bool, true, false, refl, sym, ap, subst, arith}
use Rattle.sz_instr.specs.declared.instr.Instr.{Instr}
use Rattle.sz_instr.specs.declared.instr.Instr.TheVariants.{Push, Local, Static, Input, Keep, KeepStatic, Clear, Store, Unary, Binary, Apply}
use Rattle.sz_instr.specs.declared.instr.Instr.TheVariants.{Convert, Decode, MakeArray, MakeTuple, MakeMap, Index, Slice, Field, Def, Tick, Jump, Test}
use Rattle.sz_instr.specs.declared.instr.Instr.TheVariants.{AndTest, OrTest, Call, Return, EndRecord, Discard, Emit, Enter, Next, Leave, Meets, Fails}
use Rattle.sz_instr.specs.declared.line.Line.{Line}
use Rattle.sz_instr.specs.declared.code.Code.{Code}
use Rattle.sz_world_rules.specs.World.{World, spend, budget_passed}
use Rattle.sz_instr.specs.States.{State}
use Rattle.sz_instr.specs.Rows.{act}
use Rattle.sz_instr.specs.Covering.{Covers}
use Rattle.sz_instr.specs.Runs.{weight_added, charge_of, charged, does}
use Rattle.sz_machine_rows.specs.declared.run_state.RunState.{RunState}
use Rattle.sz_machine_rows.specs.declared.run_state.Onward.{Onward as Going}
use Rattle.sz_machine_rows.specs.declared.run_state.Onward.TheVariants.{Fault}
use Rattle.sz_machine.specs.CodeRuns.{LineDoes}
use Rattle.sz_machine_rows.specs.Acting.{Around, world_of, state_of, when_paid, weighs_and_acts, leads, DoesFromTo, Paid}
use Rattle.sz_machine.specs.AtLines.{base_charge, TakesCandidate}
use Rattle.sz_machine.proofs.CoverLemmas.{list_there}
use Rattle.sz_machine_rows.proofs.ForCallers.{world, spend_more, spend_less}

-- what is known of each instruction: its ticks are a charge and a weight, whether its row covers a state doesn't
-- depend on the world, and a candidate is taken of a list that is there
pub record Splits (code : Code) (ticks : ℕ) (i : Instr) (s : State) : Type 0 where
  pub charge : charge_of code ticks i s ≡ base_charge ticks i s.lists + weight_added code i s.stack
  pub covers : (w : World) → Covers code i s → Covers code i (record s { world = w })
  pub lists : Covers code i s → TakesCandidate i → 0 < length s.lists
  pub whole : (TakesCandidate i → ⊥) → base_charge ticks i s.lists ≡ ticks

pub splits : (code : Code) (ticks : ℕ) (i : Instr) (s : State) → Splits code ticks i s
splits code ticks (Push c) s = record { charge = refl; covers = λ w h. h; lists = λ h t. absurd t; whole = λ n. refl }
splits code ticks (Local n) s = record { charge = refl; covers = λ w h. h; lists = λ h t. absurd t; whole = λ n. refl }
splits code ticks (Static n) s = record { charge = refl; covers = λ w h. h; lists = λ h t. absurd t; whole = λ n. refl }
splits code ticks Input s = record { charge = refl; covers = λ w h. h; lists = λ h t. absurd t; whole = λ n. refl }
splits code ticks (Keep n) s = record { charge = refl; covers = λ w h. h; lists = λ h t. absurd t; whole = λ n. refl }
splits code ticks (KeepStatic n) s = record {
  charge = refl;
  covers = λ w h. h;
  lists = λ h t. absurd t;
  whole = λ n. refl;
}
splits code ticks (Clear n) s = record { charge = refl; covers = λ w h. h; lists = λ h t. absurd t; whole = λ n. refl }
splits code ticks (Store n path) s = record {
  charge = refl;
  covers = λ w h. h;
  lists = λ h t. absurd t;
  whole = λ n. refl;
}
splits code ticks (Unary op) s = record { charge = refl; covers = λ w h. h; lists = λ h t. absurd t; whole = λ n. refl }
splits code ticks (Binary op) s = record {
  charge = refl;
  covers = λ w h. h;
  lists = λ h t. absurd t;
  whole = λ n. refl;
}
splits code ticks (Apply b) s = record { charge = refl; covers = λ w h. h; lists = λ h t. absurd t; whole = λ n. refl }
splits code ticks (Convert ty) s = record {
  charge = refl;
  covers = λ w h. h;
  lists = λ h t. absurd t;
  whole = λ n. refl;
}
splits code ticks (Decode ty) s = record {
  charge = refl;
  covers = λ w h. h;
  lists = λ h t. absurd t;
  whole = λ n. refl;
}
splits code ticks (MakeArray count) s = record {
  charge = refl;
  covers = λ w h. h;
  lists = λ h t. absurd t;
  whole = λ n. refl;
}
splits code ticks (MakeTuple count) s = record {
  charge = refl;
  covers = λ w h. h;
  lists = λ h t. absurd t;
  whole = λ n. refl;
}
splits code ticks (MakeMap count) s = record {
  charge = refl;
  covers = λ w h. h;
  lists = λ h t. absurd t;
  whole = λ n. refl;
}
splits code ticks Index s = record { charge = refl; covers = λ w h. h; lists = λ h t. absurd t; whole = λ n. refl }
splits code ticks Slice s = record { charge = refl; covers = λ w h. h; lists = λ h t. absurd t; whole = λ n. refl }
splits code ticks (Field n) s = record { charge = refl; covers = λ w h. h; lists = λ h t. absurd t; whole = λ n. refl }
splits code ticks Def s = record { charge = refl; covers = λ w h. h; lists = λ h t. absurd t; whole = λ n. refl }
splits code ticks Tick s = record { charge = refl; covers = λ w h. h; lists = λ h t. absurd t; whole = λ n. refl }
splits code ticks (Jump to) s = record { charge = refl; covers = λ w h. h; lists = λ h t. absurd t; whole = λ n. refl }
splits code ticks (Test to past) s = record {
  charge = refl;
  covers = λ w h. h;
  lists = λ h t. absurd t;
  whole = λ n. refl;
}
splits code ticks (AndTest to) s = record {
  charge = refl;
  covers = λ w h. h;
  lists = λ h t. absurd t;
  whole = λ n. refl;
}
splits code ticks (OrTest to) s = record {
  charge = refl;
  covers = λ w h. h;
  lists = λ h t. absurd t;
  whole = λ n. refl;
}
splits code ticks (Call f) s = record { charge = refl; covers = λ w h. h; lists = λ h t. absurd t; whole = λ n. refl }
splits code ticks Return s = record { charge = refl; covers = λ w h. h; lists = λ h t. absurd t; whole = λ n. refl }
splits code ticks EndRecord s = record { charge = refl; covers = λ w h. h; lists = λ h t. absurd t; whole = λ n. refl }
splits code ticks Discard s = record { charge = refl; covers = λ w h. h; lists = λ h t. absurd t; whole = λ n. refl }
splits code ticks (Emit t n weighted) s = record {
  charge = refl;
  covers = λ w h. h;
  lists = λ h t. absurd t;
  whole = λ n. refl;
}
splits code ticks (Enter slice) s = record {
  charge = refl;
  covers = λ w h. h;
  lists = λ h t. absurd t;
  whole = λ n. refl;
}
splits code ticks (Next n to) s = record {
  charge = omega arith;
  covers = λ w h. h;
  lists = λ h t. list_there s.lists h.1;
  whole = λ n. absurd (n tt);
}
splits code ticks Leave s = record { charge = refl; covers = λ w h. h; lists = λ h t. absurd t; whole = λ n. refl }
splits code ticks (Meets to) s = record { charge = refl; covers = λ w h. h; lists = λ h t. absurd t; whole = λ n. refl }
splits code ticks (Fails to) s = record { charge = refl; covers = λ w h. h; lists = λ h t. absurd t; whole = λ n. refl }

module _ (code : Code) (line : Line) (old : RunState) (a b : Around) where
  -- what is done once all ticks were taken
  then_acts : (m : Option World) → charged code line (state_of old a) m
      ≡ when_paid line.place m (λ w. act code line.instr line.place (record (state_of old a) { world = w }))
  then_acts None = refl
  then_acts (Some w) = refl

  -- the line is done in place, with so many ticks left once its charge is taken
  with_left : (left : ℕ) (new : RunState) (next : Going)
      → spend (base_charge line.charge line.instr old.calls.lists) (world_of old) ≡ Some (world left old.emits)
      → DoesFromTo line.place a b (weighs_and_acts code line.instr) (record old { left = left }) next new
      → does code line (state_of old a) ≡ leads next line.place b new
  with_left left new next spent acts =
      let ticks = base_charge line.charge line.instr old.calls.lists in
      let weight = weight_added code line.instr old.operands in
      let split = splits code line.charge line.instr (state_of old a) in
      let taken = ap (λ n. spend n (world_of old)) split.charge
      ∙ spend_more ticks weight old.left left old.emits old.emits spent in
      ap (charged code line (state_of old a)) taken ∙ then_acts (spend weight (world left old.emits)) ∙ acts

  pub step_does : (mid new : RunState) (next : Going)
      → Paid (base_charge line.charge line.instr old.calls.lists) old true mid
      → DoesFromTo line.place a b (weighs_and_acts code line.instr) mid next new
      → does code line (state_of old a) ≡ leads next line.place b new
  step_does mid new next paid acts =
      let ticks = base_charge line.charge line.instr old.calls.lists in
      with_left mid.left new next (subst (λ h. spend ticks (world_of old) ≡ Some (world_of h)) paid.kept paid.spent)
      (subst (λ h. DoesFromTo line.place a b (weighs_and_acts code line.instr) h next new) paid.kept acts)

  -- its row covers the state whose charge is taken
  pub still_covered : (ticks : ℕ) (paid : Bool) (mid : RunState) → Paid ticks old paid mid
      → Covers code line.instr (state_of old a) → Covers code line.instr (state_of mid a)
  still_covered ticks paid mid is h =
      subst (λ h. Covers code line.instr (state_of h a)) (sym is.kept)
      ((splits code line.charge line.instr (state_of old a)).covers (world mid.left old.emits) h)

  -- what the line that is there does, each line there does
  line_does : (new : RunState) (next : Going) → slice_get code.lines a.at ≡ Some line
      → does code line (state_of old a) ≡ leads next line.place b new
      → LineDoes code a b old next new
  line_does new next found e l is =
      let same : line ≡ l = ap (λ o. unwrap_or o line) (sym found ∙ is) in
      subst (λ k. does code k (state_of old a) ≡ leads next k.place b new) same e

  -- once it is settled, what is due was taken or wasn't there
  pub settled : (mid new : RunState) (paid done : Bool) → Paid line.charge old paid mid → (paid ≡ false → mid ≡ old)
      → ((before : RunState) → Paid line.charge before paid mid → (paid ≡ false → mid ≡ before)
      → Paid (base_charge line.charge line.instr mid.calls.lists) before done new)
      → Paid (base_charge line.charge line.instr old.calls.lists) old done new
  settled mid new paid done is left settles =
      subst (λ lists. Paid (base_charge line.charge line.instr lists) old done new) (ap (λ h. h.calls.lists) is.kept)
      (settles old is left)

  -- a line whose charge isn't there faults
  pub line_faults : (new : RunState) → slice_get code.lines a.at ≡ Some line
      → Paid (base_charge line.charge line.instr old.calls.lists) old false new
      → LineDoes code a b old (Fault budget_passed) new
  line_faults new found paid =
      let ticks = base_charge line.charge line.instr old.calls.lists in
      let weight = weight_added code line.instr old.operands in
      let split = splits code line.charge line.instr (state_of old a) in
      let none = ap (λ n. spend n (world_of old)) split.charge
      ∙ spend_less ticks weight old.left old.emits paid.spent in
      line_does new (Fault budget_passed) found (ap (charged code line (state_of old a)) none)

  -- a line that takes no candidate has its whole charge taken
  pub line_goes_whole : (mid new : RunState) (next : Going) → slice_get code.lines a.at ≡ Some line
      → (TakesCandidate line.instr → ⊥)
      → Paid line.charge old true mid → DoesFromTo line.place a b (weighs_and_acts code line.instr) mid next new
      → LineDoes code a b old next new
  line_goes_whole mid new next found common paid acts =
      let whole = (splits code line.charge line.instr (state_of old a)).whole common in
      line_does new next found (step_does mid new next (subst (λ n. Paid n old true mid) (sym whole) paid) acts)

  -- a line whose charge is there goes on by its instruction
  pub line_goes : (mid new : RunState) (next : Going) → slice_get code.lines a.at ≡ Some line
      → Paid (base_charge line.charge line.instr old.calls.lists) old true mid
      → DoesFromTo line.place a b (weighs_and_acts code line.instr) mid next new
      → LineDoes code a b old next new
  line_goes mid new next found paid acts = line_does new next found (step_does mid new next paid acts)

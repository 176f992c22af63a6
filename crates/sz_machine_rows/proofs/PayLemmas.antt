-- Ticks that are taken one after the other are taken together.
use Rattle.std.proofs.Common.{◌≡◌, ◌∙◌, ℕ, zero, suc, ◌+◌, ◌-◌, ◌<◌, ◌≤◌, nat_lt, nat_le, if◌then◌else◌, List, Bool, true, false, Option, Some, None, unwrap_or, refl, sym, ap, arith, subst}
use Rattle.std.specs.Option.{option_map}
use Rattle.sz_value.specs.Data.{Datum, array, tuple, data_of}
use Rattle.sz_world_rules.specs.Ticks.{result_weight}
use Rattle.sz_machine_cells.specs.Results.{composite_weight}
use Rattle.std.proofs.lemmas.Bool.{leb-true, leb-false, le-leb, lt-leb}
use Rattle.sz_tabs.specs.Data.{EmitDatum}
use Rattle.sz_world_rules.specs.World.{World, spend, budget_passed}
use Rattle.sz_types.specs.declared.place.Place.{Place}
use Rattle.sz_instr.specs.declared.instr.Instr.{Instr}
use Rattle.sz_instr.specs.declared.code.Code.{Code}
use Rattle.sz_instr.specs.States.{State, faults}
use Rattle.sz_instr.specs.Rows.{act}
use Rattle.sz_instr.specs.Runs.{weight_added}
use Rattle.sz_machine_rows.specs.Acting.{Paid, when_paid, weighs_and_acts}
use Rattle.sz_machine_rows.specs.declared.run_state.RunState.{RunState}

-- a world
abbrev pub world : ℕ → List EmitDatum → World
world left emits = record { left = left; emits = emits }

-- what is left after so many ticks, if they were left
abbrev pub after : ℕ → ℕ → List EmitDatum → Bool → Option World
after n left emits true = Some (world (left - n) emits)
after n left emits false = None

pub spend_is : (n left : ℕ) (emits : List EmitDatum) → spend n (world left emits) ≡ after n left emits (nat_le n left)
spend_is zero left emits =
    let none : left ≡ left - 0 = omega arith in
    ap (λ l. Some (world l emits)) none ∙ ap (after 0 left emits) (sym (le-leb 0 left (omega arith)))
spend_is (suc n) left emits = by (nat_lt n left)
  where
    by : (b : Bool) → (if b then Some (world (left - suc n) emits) else None) ≡ after (suc n) left emits b
    by true = refl
    by false = refl

-- so many ticks were there
record Spent (n left m : ℕ) (emits others : List EmitDatum) : Type 0 where
  fits : n ≤ left
  rest : left - n ≡ m
  same : emits ≡ others

spent : (n left m : ℕ) (emits others : List EmitDatum) → spend n (world left emits) ≡ Some (world m others)
    → Spent n left m emits others
spent n left m emits others e = by (nat_le n left) refl (sym (spend_is n left emits) ∙ e)
  where
    by : (p : Bool) → nat_le n left ≡ p → after n left emits p ≡ Some (world m others) → Spent n left m emits others
    by true is h = record {
      fits = leb-true n left is;
      rest = ap (λ o. (unwrap_or o (world m others)).left) h;
      same = ap (λ o. (unwrap_or o (world m others)).emits) h;
    }
    by false is h = absurd (cc)

-- they weren't
unspent : (n left : ℕ) (emits : List EmitDatum) → spend n (world left emits) ≡ None → left < n
unspent n left emits e = by (nat_le n left) refl (sym (spend_is n left emits) ∙ e)
  where
    by : (p : Bool) → nat_le n left ≡ p → after n left emits p ≡ None → left < n
    by true is h = absurd (cc)
    by false is h = leb-false n left is

there : (n left : ℕ) (emits : List EmitDatum) → n ≤ left → spend n (world left emits) ≡ Some (world (left - n) emits)
there n left emits h = spend_is n left emits ∙ ap (after n left emits) (le-leb n left h)

-- where fewer are left they aren't there
pub not_there : (n left : ℕ) (emits : List EmitDatum) → left < n → spend n (world left emits) ≡ None
not_there n left emits h = spend_is n left emits ∙ ap (after n left emits) (lt-leb n left h)

-- the second ticks are taken of what the first ones left
pub spend_more : (a b left m : ℕ) (emits others : List EmitDatum) → spend a (world left emits) ≡ Some (world m others)
    → spend (a + b) (world left emits) ≡ spend b (world m others)
spend_more a b left m emits others e = let s = spent a left m emits others e in
    by (nat_le b m) refl s.fits s.rest s.same
  where
    by : (p : Bool) → nat_le b m ≡ p → a ≤ left → left - a ≡ m → emits ≡ others
        → spend (a + b) (world left emits) ≡ spend b (world m others)
    by true is fits rest same =
        let enough = leb-true b m is in
        let fewer : left - (a + b) ≡ m - b = omega (arith, enough, fits, rest) in
        there (a + b) left emits (omega (arith, enough, fits, rest)) ∙ (λ i. Some (world (fewer i) (same i)))
        ∙ sym (there b m others enough)
    by false is fits rest same =
        let short = leb-false b m is in
        not_there (a + b) left emits (omega (arith, short, fits, rest)) ∙ sym (not_there b m others short)

-- where the first ones aren't there, both aren't
pub spend_less : (a b left : ℕ) (emits : List EmitDatum) → spend a (world left emits) ≡ None
    → spend (a + b) (world left emits) ≡ None
spend_less a b left emits e = let short = unspent a left emits e in not_there (a + b) left emits (omega (arith, short))

-- ticks are taken twice
pub paid_more : (a b : ℕ) (old mid new : RunState) (p : Bool) → Paid a old true mid → Paid b mid p new
    → Paid (a + b) old p new
paid_more a b old mid new p h k =
    let both : RunState → RunState = λ h. record h { left = new.left } in
    let kept : new ≡ both old = k.kept ∙ ap both h.kept in
    record { spent = spend_more a b old.left mid.left old.emits mid.emits h.spent ∙ k.spent; kept = kept }

-- the first ones weren't there
pub paid_less : (a b : ℕ) (old mid : RunState) → Paid a old false mid → Paid (a + b) old false mid
paid_less a b old mid h = record { spent = spend_less a b old.left old.emits h.spent; kept = h.kept }

-- as many ticks
pub pays_as : (a b : ℕ) (old new : RunState) (p : Bool) → a ≡ b → Paid a old p new → Paid b old p new
pays_as a b old new p e h = subst (λ n. Paid n old p new) e h

-- what an array of parts weighs
pub weighs_array : (o : Option (List Datum))
    → composite_weight o ≡ result_weight (option_map (λ ds. array (data_of ds)) o)
weighs_array None = refl
weighs_array (Some ds) = refl

-- what a tuple of parts weighs
pub weighs_tuple : (o : Option (List Datum))
    → composite_weight o ≡ result_weight (option_map (λ ds. tuple (data_of ds)) o)
weighs_tuple None = refl
weighs_tuple (Some ds) = refl

module _ (code : Code) (instr : Instr) (place : Place) (s : State) where
  -- a row whose weight isn't left
  pub row_unpaid : spend (weight_added code instr s.stack) s.world ≡ None
      → weighs_and_acts code instr place s ≡ faults budget_passed place
  row_unpaid none = ap (λ o. when_paid place o (λ v. act code instr place (record s { world = v }))) none

  -- one whose weight is taken
  pub row_paid : (v : World) → spend (weight_added code instr s.stack) s.world ≡ Some v
      → weighs_and_acts code instr place s ≡ act code instr place (record s { world = v })
  row_paid v some = ap (λ o. when_paid place o (λ v. act code instr place (record s { world = v }))) some

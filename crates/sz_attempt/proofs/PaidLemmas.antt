-- What a run emits is paid for: the parts of each emit weigh no more than the budget.
use Rattle.std.proofs.Common.{◌≡◌, ◌∙◌, ℕ, zero, suc, ◌+◌, ◌<◌, ◌≤◌, Bool, true, false, Option, Some, None, List, [], ◌∷◌, ◌++◌, All, IfSome, nat_lt, arith}
use Rattle.std.proofs.Common.{refl, ap, subst, inl, inr}
use Rattle.std.specs.Prelude.{ℤ, ◌-◌, if◌then◌else◌, ◌⊎◌}
use Rattle.std.specs.Option.{option_map}
use Rattle.std.proofs.lemmas.Bool.Decides.{nat_tests}
use Rattle.std.proofs.lemmas.List.Elements.{All-nil, All-push}
use Rattle.sz_types.specs.declared.place.Place.{Place}
use Rattle.sz_value.specs.Data.{Datum}
use Rattle.sz_value.specs.Weight.{weight_of}
use Rattle.sz_tabs.specs.Data.{EmitDatum}
use Rattle.sz_instr.specs.declared.instr.Instr.TheVariants.{Emit}
use Rattle.sz_instr.specs.declared.code.Code.{Code}
use Rattle.sz_world_rules.specs.World.{World, new_world, spend, Done}
use Rattle.sz_world_rules.specs.Slots.{Slot, all_defined}
use Rattle.sz_world_rules.specs.Ticks.{weight_of_all}
use Rattle.sz_world_rules.specs.Emits.{EmitParts, listed, emit_with, emit_weighted, emit_by_weight, emit_of, weight_number, weight_if_all, emit_weight, line_emit, emit_or_line, with_emit}
use Rattle.sz_instr.specs.Rows.{emit_parts}
use Rattle.sz_instr.specs.Runs.{charge_of, RunsTo}
use Rattle.sz_instr.proofs.RunLaws.{IsKept, done_good}

-- what the indexes and the value of an emit weigh
abbrev parts_weight : EmitDatum → ℕ
parts_weight e = weight_of_all e.indexes + weight_of e.value

some_same : {T : Type 0} (x y : T) → Some x ≡ Some y → x ≡ y
some_same x y e = cc

-- the values of slots that are all defined
appended : (slots rest : List Slot) (ds es : List Datum) → all_defined slots ≡ Some ds → all_defined rest ≡ Some es
    → all_defined (slots ++ rest) ≡ Some (ds ++ es)
appended [] rest ds es front later = later ∙ ap (λ l. Some (l ++ es)) (some_same [] ds front)
appended (None ∷ slots) rest ds es front later = absurd (cc)
appended (Some d ∷ slots) rest ds es front later =
    by (all_defined slots) refl front (λ fs is. appended slots rest fs es is later)
  where
    by : (found : Option (List Datum)) → all_defined slots ≡ found → option_map (λ l. d ∷ l) found ≡ Some ds
        → ((fs : List Datum) → all_defined slots ≡ Some fs → all_defined (slots ++ rest) ≡ Some (fs ++ es))
        → option_map (λ l. d ∷ l) (all_defined (slots ++ rest)) ≡ Some (ds ++ es)
    by None is front more = absurd (cc)
    by (Some fs) is front more = ap (option_map (λ l. d ∷ l)) (more fs is)
        ∙ ap (λ l. Some (l ++ es)) (some_same (d ∷ fs) ds front)

weight_append : (ds es : List Datum) → weight_of_all (ds ++ es) ≡ weight_of_all ds + weight_of_all es
weight_append [] es = omega arith
weight_append (d ∷ ds) es = omega (arith, weight_append ds es)

-- the emit counts a line
abbrev pub CountsLine : EmitDatum → Type 0
CountsLine e = (table : ℕ) × (place : Place) × (e ≡ line_emit table place)

-- the weight of an emit's parts is among its ticks
module _ (budget : ℕ) where
  -- the ticks of an emit are enough for its indexes and its value, or it counts a line
  abbrev pub IsPaid : EmitDatum → Type 0
  IsPaid e = (parts_weight e ≤ budget) ⊎ CountsLine e

  -- an emit whose parts weigh no more is paid
  module _ (table : ℕ) (indexes : List Slot) where
    plain_paid : (found : Option (List Datum)) → all_defined indexes ≡ found
        → (value : Slot) (others : List Slot) (es : List Datum) → all_defined others ≡ Some es
        → weight_if_all (all_defined (indexes ++ value ∷ others)) ≤ budget → (weight : Option ℤ)
        → IfSome (emit_with table found value weight) IsPaid
    plain_paid None is value others es are less weight = tt
    plain_paid (Some ds) is None others es are less weight = tt
    plain_paid (Some ds) is (Some v) others es are less weight =
        let all = appended indexes (Some v ∷ others) ds (v ∷ es) is (ap (option_map (λ l. v ∷ l)) are) in
        let sum = ap weight_if_all all ∙ weight_append ds (v ∷ es) in
        inl (omega (arith, less, sum))

    weighted_paid : (value : Slot) (x : Datum) → weight_if_all (all_defined (indexes ++ value ∷ Some x ∷ [])) ≤ budget
        → (weight : Option ℤ) → IfSome (emit_weighted table (all_defined indexes) value weight) IsPaid
    weighted_paid value x less None = tt
    weighted_paid value x less (Some n) =
        plain_paid (all_defined indexes) refl value (Some x ∷ []) (x ∷ []) refl less (Some n)

    by_weight_paid : (value : Slot) (weight : Option Slot)
        → weight_if_all (all_defined (indexes ++ value ∷ listed weight)) ≤ budget
        → IfSome (emit_by_weight table (all_defined indexes) value weight) IsPaid
    by_weight_paid value None less = plain_paid (all_defined indexes) refl value [] [] refl less None
    by_weight_paid value (Some None) less = tt
    by_weight_paid value (Some (Some x)) less = weighted_paid value x less (weight_number (Some x))

  emit_paid : (table : ℕ) (parts : EmitParts) → emit_weight parts ≤ budget → IfSome (emit_of table parts) IsPaid
  emit_paid table parts less = by_weight_paid table parts.indexes parts.value parts.weight less

  -- each of the emits is paid, and no more ticks are left than there were
  record Keeps (w : World) : Type 0 where
    left : w.left ≤ budget
    paid : All IsPaid w.emits

  with_paid : (w : World) (found : Option EmitDatum) → Keeps w → IfSome found IsPaid → Keeps (with_emit found w)
  with_paid w None keeps paid = keeps
  with_paid w (Some e) keeps paid = record { left = keeps.left; paid = All-push IsPaid w.emits e keeps.paid paid }

  or_line_paid : (found : Option EmitDatum) (counting : Option ℕ) (place : Place) → IfSome found IsPaid
      → IfSome (emit_or_line found counting place) IsPaid
  or_line_paid (Some e) counting place paid = paid
  or_line_paid None None place paid = tt
  or_line_paid None (Some table) place paid = inr (table, place, refl)

  -- ticks that were taken were there, and change no emits
  spent_keeps : (ticks : ℕ) (w after : World) → Keeps w → spend ticks w ≡ Some after → Keeps after × (ticks ≤ budget)
  spent_keeps zero w after keeps is = (subst Keeps (let same = is in cc) keeps, omega arith)
  spent_keeps (suc n) w after keeps is = by_test (nat_lt n w.left) refl is
    where
      by_test : (b : Bool) → nat_lt n w.left ≡ b
          → (if b then Some (record w { left = w.left - suc n }) else None) ≡ Some after
          → Keeps after × (suc n ≤ budget)
      by_test true less is =
          let there : n < w.left = grind (arith, nat_tests) in
          let most = keeps.left in (
            subst Keeps (let same : (record w { left = w.left - suc n }) ≡ after = cc in same)
                (record { left = omega (arith, most); paid = keeps.paid }),
            omega (arith, there, most),
          )
      by_test false less is = absurd (cc)

  paid_kept : (code : Code) → IsKept code Keeps
  paid_kept code = record {
    spent = λ ticks w after keeps is. (spent_keeps ticks w after keeps is).0;
    counts = λ table place w can keeps. with_paid w (Some (line_emit table place)) keeps (inr (table, place, refl));
    emits = λ table indexes weighted place charge s after covers before is keeps.
        let taken = (spent_keeps (charge_of code charge (Emit table indexes weighted) s) s.world after before is).1 in
        with_paid after _ keeps (or_line_paid _ code.ignore place
        (emit_paid table (emit_parts indexes weighted s.stack) (omega (arith, taken))));
  }

-- what a run for a record emits is paid for
pub emits_paid : (code : Code) (input : List ℕ) (statics : List Slot) (budget : ℕ) (emits : List EmitDatum)
    → RunsTo code input statics budget (Done emits) → All (IsPaid budget) emits
emits_paid code input statics budget emits runs =
    let begins : Keeps budget (new_world budget) = record { left = omega arith; paid = All-nil (IsPaid budget) } in
    let end = done_good code (Keeps budget) (paid_kept budget code) input statics budget emits begins runs in
    subst (All (IsPaid budget)) end.1 end.2.paid

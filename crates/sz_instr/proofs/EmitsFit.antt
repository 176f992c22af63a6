-- What a run emits fits the tables of its code.
use Rattle.std.proofs.Common.{◌≡◌, ℕ, zero, suc, Bool, true, false, Option, Some, None, List}
use Rattle.std.proofs.Common.{[], ◌∷◌, All, IfSome, refl, sym, ap, subst, is_some, ◌&&◌, nat_lt}
use Rattle.std.specs.Prelude.{ℤ, pos, ◌-◌, slice_get, if◌then◌else◌}
use Rattle.std.specs.Option.{option_map}
use Rattle.std.proofs.lemmas.List.Elements.{All-nil, All-push}
use Rattle.sz_types.specs.Data.{Shape}
use Rattle.sz_types.specs.Tables.{Declaration}
use Rattle.sz_types.specs.declared.place.Place.{Place}
use Rattle.sz_value.specs.Data.{Datum, int}
use Rattle.sz_types.specs.Types.{has_type, have_types}
use Rattle.sz_tabs.specs.Data.{EmitDatum}
use Rattle.sz_tabs.specs.Fitting.{IsEmitTo}
use Rattle.sz_instr.specs.declared.code.Code.{Code}
use Rattle.sz_world_rules.specs.World.{World, spend, Done}
use Rattle.sz_world_rules.specs.Slots.{Slot, all_defined}
use Rattle.sz_world_rules.specs.Typed.{Fits, AllFit}
use Rattle.sz_world_rules.specs.Emits.{EmitParts, emit_with, emit_weighted, emit_by_weight, emit_of, weight_number, line_emit, emit_or_line, with_emit}
use Rattle.sz_instr.specs.Rows.{emit_parts}
use Rattle.sz_instr.specs.Covering.{TakesLines, CanCount, WeightFits, PartsFit}
use Rattle.sz_instr.specs.Runs.{RunsTo}
use Rattle.sz_instr.proofs.RunLaws.{IsKept, done_good}

-- indexes that are all defined have their types
indexes_typed : (slots : List Slot) (types : List Shape) → AllFit slots types
    → IfSome (all_defined slots) (λ ds. have_types ds types ≡ true)
indexes_typed [] [] fit = refl
indexes_typed [] (t ∷ ts) fit = absurd fit
indexes_typed (x ∷ xs) [] fit = absurd fit
indexes_typed (None ∷ xs) (t ∷ ts) fit = tt
indexes_typed (Some d ∷ xs) (t ∷ ts) fit = by_rest (all_defined xs) (indexes_typed xs ts fit.1)
  where
    by_rest : (rest : Option (List Datum)) → IfSome rest (λ ds. have_types ds ts ≡ true)
        → IfSome (option_map (λ ds. d ∷ ds) rest) (λ ds. have_types ds (t ∷ ts) ≡ true)
    by_rest None typed = tt
    by_rest (Some ds) typed = λ i. fit.0 i && typed i

-- the parts of an emit that fit a table make an emit to it
module _ (tables : List Declaration) (table : ℕ) (d : Declaration) (declared : slice_get tables table ≡ Some d) where
  plain_fits : (indexes : Option (List Datum)) (value : Slot) → IfSome indexes (λ ds. have_types ds d.indexes ≡ true)
      → Fits value d.element → (weight : Option (ℤ)) → is_some weight ≡ is_some d.weight
      → IfSome (emit_with table indexes value weight) (IsEmitTo tables)
  plain_fits None value typed fits weight there = tt
  plain_fits (Some is) None typed fits weight there = tt
  plain_fits (Some is) (Some v) typed fits weight there =
      record { table = d; declared = declared; indexes = typed; fits = record { element = fits; weight = there } }

  weighted_fits : (indexes : Option (List Datum)) (value : Slot)
      → IfSome indexes (λ ds. have_types ds d.indexes ≡ true) → Fits value d.element
      → (weight : Option (ℤ)) → is_some d.weight ≡ true
      → IfSome (emit_weighted table indexes value weight) (IsEmitTo tables)
  weighted_fits indexes value typed fits None there = tt
  weighted_fits indexes value typed fits (Some w) there = plain_fits indexes value typed fits (Some w) (sym there)

  by_weight : (indexes : Option (List Datum)) (value : Slot) → IfSome indexes (λ ds. have_types ds d.indexes ≡ true)
      → Fits value d.element
      → (weight : Option Slot) (asked : Option Shape) → d.weight ≡ asked → WeightFits weight asked
      → IfSome (emit_by_weight table indexes value weight) (IsEmitTo tables)
  by_weight indexes value typed fits None None is weighs =
      plain_fits indexes value typed fits None (sym (ap is_some is))
  by_weight indexes value typed fits None (Some t) is weighs = absurd weighs
  by_weight indexes value typed fits (Some w) None is weighs = absurd weighs
  by_weight indexes value typed fits (Some w) (Some t) is weighs =
      weighted_fits indexes value typed fits (weight_number w) (ap is_some is)

emit_fits : (tables : List Declaration) (table : ℕ) (parts : EmitParts) (found : Option Declaration)
    → slice_get tables table ≡ found → PartsFit found parts → IfSome (emit_of table parts) (IsEmitTo tables)
emit_fits tables table parts None is fit = absurd fit
emit_fits tables table parts (Some d) is fit =
    by_weight tables table d is (all_defined parts.indexes) parts.value (indexes_typed parts.indexes d.indexes fit.0)
    fit.1 parts.weight d.weight refl fit.2

-- a line with its count fits the table of lines
line_fits_table : (tables : List Declaration) (table : ℕ) (place : Place) (found : Option Declaration)
    → slice_get tables table ≡ found → TakesLines found → IsEmitTo tables (line_emit table place)
line_fits_table tables table place None is takes = absurd takes
line_fits_table tables table place (Some d) is takes = record {
  table = d;
  declared = is;
  indexes = subst (λ ts. have_types (int (pos place.line) ∷ []) ts ≡ true) (sym takes.0) refl;
  fits = record {
    element = subst (λ t. has_type (int (pos 1)) t ≡ true) (sym takes.1) refl;
    weight = sym (ap is_some takes.2);
  };
}

-- a run keeps that all its emits fit the tables of its code
module _ (code : Code) where
  abbrev AllFitTables : World → Type 0
  AllFitTables w = All (IsEmitTo code.tables) w.emits

  with_fitting : (w : World) (found : Option EmitDatum) → AllFitTables w → IfSome found (IsEmitTo code.tables)
      → AllFitTables (with_emit found w)
  with_fitting w None all fits = all
  with_fitting w (Some e) all fits = All-push (IsEmitTo code.tables) w.emits e all fits

  -- the line of an emit with an undefined part
  or_line_fits : (found : Option EmitDatum) (ignore : Option ℕ) (place : Place) → IfSome found (IsEmitTo code.tables)
      → CanCount code ignore → IfSome (emit_or_line found ignore place) (IsEmitTo code.tables)
  or_line_fits (Some e) ignore place fits can = fits
  or_line_fits None None place fits can = tt
  or_line_fits None (Some table) place fits can =
      line_fits_table code.tables table place (slice_get code.tables table) refl can

  -- ticks change no emits
  spent_fits : (ticks : ℕ) (w after : World) → AllFitTables w → spend ticks w ≡ Some after → AllFitTables after
  spent_fits zero w after all is = subst AllFitTables (let same : w ≡ after = cc in same) all
  spent_fits (suc n) w after all is = by_test (nat_lt n w.left) is
    where
      by_test : (b : Bool) → (if b then Some (record w { left = w.left - suc n }) else None) ≡ Some after
          → AllFitTables after
      by_test true is = subst AllFitTables (let same : (record w { left = w.left - suc n }) ≡ after = cc in same) all
      by_test false is = absurd (cc)

  fitting_kept : IsKept code AllFitTables
  fitting_kept = record {
    spent = spent_fits;
    counts = λ table place w can all. with_fitting w (Some (line_emit table place)) all
        (line_fits_table code.tables table place (slice_get code.tables table) refl can);
    emits = λ table indexes weighted place charge s after covers before spent all.
        with_fitting after _ all (or_line_fits _ code.ignore place (emit_fits code.tables table
        (emit_parts indexes weighted s.stack) (slice_get code.tables table) refl covers.1) covers.2);
  }

-- what a run for a record emits fits the tables of the code
pub emits_fit : (code : Code) (input : List ℕ) (statics : List Slot) (budget : ℕ) (emits : List EmitDatum)
    → RunsTo code input statics budget (Done emits) → All (IsEmitTo code.tables) emits
emits_fit code input statics budget emits runs =
    let end = done_good code (AllFitTables code) (fitting_kept code) input statics budget emits
    (All-nil (IsEmitTo code.tables)) runs in
    subst (All (IsEmitTo code.tables)) end.1 end.2

-- What one emit more does to one table, and to all of them.
use Rattle.std.proofs.Common.{◌≡◌, ◌∙◌, ℕ, zero, suc, ◌+◌, ◌≤◌, ◌<◌, ◌^◌, Bool, true, false, true≢false, Option}
use Rattle.std.proofs.Common.{Some, None, List, [], ◌∷◌, ◌++◌, map, length, refl, sym, ap, subst, arith, All, nat_eq}
use Rattle.std.specs.Prelude.{slice_get, slice_index_or, set}
use Rattle.std.specs.Option.{option_map}
use Rattle.std.proofs.Math.Seq.{map-set_same}
use Rattle.std.proofs.lemmas.Bool.{eq-eqb, eqb-true}
use Rattle.std.proofs.lemmas.List.{map-set, length-map, length-append, get_or-map, get_or-set_same, get_or-set_other}
use Rattle.std.proofs.lemmas.List.Elements.{All-set, All-map, All-weaker}
use Rattle.std.proofs.lemmas.Option.{slice_get-map, slice_get_within, get_or_from_slice_get}
use Rattle.sz_types.specs.SeenTables.{seen_table}
use Rattle.sz_types.specs.Tables.{Declaration}
use Rattle.sz_types.specs.declared.table.TableDecl.{TableDecl}
use Rattle.sz_tabs.specs.Data.{EmitDatum}
use Rattle.sz_tabs.specs.Rows.{brought_by}
use Rattle.sz_tabs.specs.Fitting.{Fits, IsEmitTo}
use Rattle.sz_total.specs.Tables.{table_rows}
use Rattle.sz_total.specs.Totals.{StandsFor, IsNew, Gains}
use Rattle.sz_total.specs.States.{TotalState, declarations, emit_count, shown}
use Rattle.sz_total.specs.Entries.{TakesEmit}
use Rattle.sz_total.specs.Parts.{PartState, entries_of}
use Rattle.sz_total.specs.OneTable.{TableState, table_shown, GainsEmit, AreTables, HasRoomFor, GainsAt, new_table, state_of}
use Rattle.sz_total.specs.Weights.{HasItsWeights, HaveTheirWeights}
use Rattle.sz_total.proofs.EntryLemmas.{rows_with_emit}
use Rattle.sz_total.proofs.ListLemmas.{rows_elsewhere}

-- what the model of a table sees of its parts that took an emit
pub table_gained : (table : Declaration) (count : ℕ) (emit : EmitDatum) (old new : List PartState) (state : TableState)
    → (record { table = table; count = count; parts = old }) ≡ state
    → TakesEmit table emit (entries_of old) (entries_of new)
    → GainsEmit state (record { table = table; count = count + 1; parts = new }) emit
table_gained table count emit old new state is takes =
    subst (λ s. GainsEmit s (record { table = table; count = count + 1; parts = new }) emit) is
    (record {
      same_table = refl;
      one_more = refl;
      rows = λ emits before. rows_with_emit emit.table table emits emit (entries_of old)
          (entries_of new) refl takes before;
    })

-- a declared table has its state
pub state_at : (tables : List Declaration) (states : List TableState)
    → map (λ (s : TableState). s.table) states ≡ tables → (at : ℕ) (table : Declaration)
    → slice_get tables at ≡ Some table → (s : TableState) × (slice_get states at ≡ Some s) × (s.table ≡ table)
state_at tables states are at table declared = by_found (slice_get states at) refl
  where
    same : option_map (λ (s : TableState). s.table) (slice_get states at) ≡ Some table
    same = sym (slice_get-map (λ (s : TableState). s.table) states at) ∙ ap (λ l. slice_get l at) are ∙ declared

    by_found : (found : Option TableState) → slice_get states at ≡ found
        → (s : TableState) × (slice_get states at ≡ Some s) × (s.table ≡ table)
    by_found None is =
        absurd (let no = ap (option_map (λ (s : TableState). s.table)) is in let none = sym no ∙ same in cc)
    by_found (Some s) is =
        (s, is, let yes = ap (option_map (λ (s : TableState). s.table)) is in let one = sym yes ∙ same in cc)

-- a table that is there has few emits
pub few_at : (count : ℕ) (states : List TableState) → All (λ (s : TableState). s.count ≤ count) states
    → (at : ℕ) (s : TableState) → slice_get states at ≡ Some s → s.count ≤ count
few_at count states few at s there =
    subst (λ (s : TableState). s.count ≤ count) (get_or_from_slice_get states at s s there)
    (few at s (slice_get_within states at s there))

-- the table of an emit that fits the declarations
module _ (tables : List Declaration) (count : ℕ) (states : List TableState) (are : AreTables tables count states) where
  pub room_for : (emit : EmitDatum) → IsEmitTo tables emit → count < 2 ^ 63 → HasRoomFor emit states
  room_for emit to room =
      let found = state_at tables states are.declared emit.table to.table to.declared in
      let few = few_at count states are.few emit.table found.0 found.1 in
      record {
        state = found.0;
        there = found.1;
        fits = subst (λ d. Fits d (brought_by emit)) (sym found.2) to.fits;
        room = omega (arith, room, few);
      }

-- one table takes an emit
module _ (emit : EmitDatum) (old new : List TableState) (gains : GainsAt emit old new) where
  within : emit.table < length old
  within = slice_get_within old emit.table gains.before gains.there

  pub tables_still : (tables : List Declaration) (count : ℕ) → AreTables tables count old
      → AreTables tables (count + 1) new
  tables_still tables count are =
      let at = get_or_from_slice_get old emit.table gains.before gains.before gains.there in
      let few = subst (λ (s : TableState). s.count ≤ count) at (are.few emit.table gains.before within) in
      record {
        declared =
            ap (map (λ (s : TableState). s.table)) gains.now
            ∙ map-set_same (λ (s : TableState). s.table) old emit.table gains.after gains.before
            (gains.gains.same_table ∙ ap (λ (s : TableState). s.table) (sym at))
            ∙ are.declared;
        few =
            subst (All (λ (s : TableState). s.count ≤ count + 1)) (sym gains.now)
            (All-set (λ (s : TableState). s.count ≤ count + 1) old emit.table gains.after
            (omega (arith, few, gains.gains.one_more)) (All-weaker (λ (s : TableState). s.count ≤ count)
            (λ (s : TableState). s.count ≤ count + 1) (λ s less. omega (arith, less)) old are.few));
      }

  rows_set : (table : ℕ) → slice_index_or (map table_shown new) table []
      ≡ slice_index_or (set (map table_shown old) emit.table (table_shown gains.after)) table []
  rows_set table =
      ap (λ l. slice_index_or (map table_shown l) table []) gains.now
      ∙ ap (λ l. slice_index_or l table []) (map-set table_shown old emit.table gains.after)

  rows_before : slice_index_or (map table_shown old) emit.table [] ≡ (table_shown gains.before)
  rows_before =
      get_or_from_slice_get (map table_shown old) emit.table (table_shown gains.before) []
      (slice_get-map table_shown old emit.table ∙ ap (option_map table_shown) gains.there)

  rows_after : slice_index_or (map table_shown new) emit.table [] ≡ (table_shown gains.after)
  rows_after =
      rows_set emit.table
      ∙ get_or-set_same (map table_shown old) emit.table (table_shown gains.after) []
      (omega (arith, within, length-map old table_shown))

  -- the rows of each table are those of one emit more
  module _ (tables : List Declaration) (count : ℕ) (are : AreTables tables count old) (emits : List EmitDatum)
      (stands : StandsFor declarations emit_count shown (state_of tables count old) emits) where
    declared_before : (table : Declaration) → slice_get tables emit.table ≡ Some table → gains.before.table ≡ table
    declared_before table declared =
        let same = sym (ap (option_map (λ (s : TableState). s.table)) gains.there)
        ∙ sym (slice_get-map (λ (s : TableState). s.table) old emit.table)
        ∙ ap (λ l. slice_get l emit.table) are.declared ∙ declared in cc

    rows_here : (declaration : Declaration) → slice_get tables emit.table ≡ Some declaration
        → slice_index_or (map table_shown new) emit.table [] ≡ table_rows emit.table declaration (emits ++ emit ∷ [])
    rows_here declaration declared =
        let same = declared_before declaration declared in
        rows_after
        ∙ gains.gains.rows emits (sym rows_before ∙ stands.rows emit.table declaration declared
        ∙ ap (λ d. table_rows emit.table d emits) (sym same))
        ∙ ap (λ d. table_rows emit.table d (emits ++ emit ∷ [])) same

    pub rows_with : (table : ℕ) (declaration : Declaration) → slice_get tables table ≡ Some declaration
        → slice_index_or (map table_shown new) table [] ≡ table_rows table declaration (emits ++ emit ∷ [])
    rows_with table declaration declared = by_test (nat_eq emit.table table) refl
      where
        by_test : (b : Bool) → nat_eq emit.table table ≡ b
            → slice_index_or (map table_shown new) table [] ≡ table_rows table declaration (emits ++ emit ∷ [])
        by_test true here =
            let is = eqb-true emit.table table here in
            subst
            (λ t. slice_get tables t ≡ Some declaration
            → slice_index_or (map table_shown new) t [] ≡ table_rows t declaration (emits ++ emit ∷ []))
            is (rows_here declaration) declared
        by_test false other =
            rows_set table
            ∙ get_or-set_other (map table_shown old) emit.table table (table_shown gains.after) []
            (λ same. true≢false (sym (eq-eqb emit.table table (sym same)) ∙ other))
            ∙ stands.rows table declaration declared ∙ sym (rows_elsewhere table emits emit declaration other)

-- what the model of all tables sees after an emit
pub total_gained : (tables : List Declaration) (count : ℕ) (emit : EmitDatum) (old new : List TableState)
    (state : TotalState) → state_of tables count old ≡ state → AreTables tables count old → GainsAt emit old new
    → Gains declarations emit_count shown state (state_of tables (count + 1) new) emit
total_gained tables count emit old new state is are gains =
    subst (λ s. Gains declarations emit_count shown s (state_of tables (count + 1) new) emit) is
    (record {
      same_tables = refl;
      one_more = refl;
      appended = λ emits stands. record {
        rows = rows_with emit old new gains tables count are emits stands;
        counted = ap (λ n. n + 1) stands.counted ∙ sym (length-append emits (emit ∷ []));
      };
    })

-- before any emit
pub tables_new : (tables : List Declaration) → AreTables tables 0 (map new_table tables)
tables_new tables = record {
  declared = again tables;
  few = All-map (λ (s : TableState). s.count ≤ 0) new_table tables (λ k d less. omega arith);
}
  where
    again : (tables : List Declaration) → map (λ (s : TableState). s.table) (map new_table tables) ≡ tables
    again [] = refl
    again (d ∷ ds) = ap (λ l. d ∷ l) (again ds)

none_at : (tables : List Declaration) (table : ℕ)
    → slice_index_or (map table_shown (map new_table tables)) table [] ≡ []
none_at [] zero = refl
none_at [] (suc n) = refl
none_at (d ∷ ds) zero = refl
none_at (d ∷ ds) (suc n) = none_at ds n

pub total_new : (tables : List Declaration)
    → IsNew declarations emit_count shown tables (state_of tables 0 (map new_table tables))
total_new tables = record {
  same_tables = refl;
  empty = record { rows = λ table declaration declared. none_at tables table; counted = refl };
}

-- a declaration among these has its weights
pub weights_at : (items : List TableDecl) (tables : List Declaration) → map seen_table items ≡ tables
    → HaveTheirWeights tables → (at : ℕ) → at < length items
    → (item : TableDecl) → item ≡ slice_index_or items at item → HasItsWeights (seen_table item)
weights_at items tables seen weights at less item is =
    let long : at < length (map seen_table items) = omega (arith, less, length-map items seen_table) in
    subst HasItsWeights (get_or-map seen_table items at item (seen_table item) less ∙ ap seen_table (sym is))
    (subst (All HasItsWeights) (sym seen) weights at (seen_table item) long)

-- What one emit more does to the aggregators of a table, and to the rows that they show.
use Rattle.std.proofs.Common.{◌≡◌, ◌∙◌, ℕ, ◌+◌, ◌≤◌, Bool, true, false, cond, true≢false, Option, Some, None, List}
use Rattle.std.proofs.Common.{[], ◌∷◌, ◌++◌, map, refl, sym, ap, subst, arith, ◌&&◌, All, is_some, IfSome, nat_eq}
use Rattle.std.specs.Option.{option_map_or}
use Rattle.std.specs.Map.{keys_of, values_of, lookup, set_value}
use Rattle.std.specs.BTreeSet.{insert_key}
use Rattle.std.proofs.lemmas.Bool.{eq-eqb}
use Rattle.std.proofs.lemmas.List.{map-append}
use Rattle.std.proofs.lemmas.List.Elements.{All-nil, All-push, All-weaker}
use Rattle.std.proofs.lemmas.Map.{keys-set_value, lookup-set_value}
use Rattle.std.proofs.lemmas.Map.Made.{is_some-lookup}
use Rattle.std.proofs.lemmas.Map.Views.{IfSome-lookup_from_All, All-values-set_value}
use Rattle.sz_types.specs.Tables.{Declaration}
use Rattle.sz_value.specs.Data.{Datum}
use Rattle.sz_flat.specs.Spelling.{HasShortLengths}
use Rattle.sz_tabs.specs.Data.{EmitDatum, Weighted}
use Rattle.sz_tabs.specs.Aggregating.{StandsFor, IsNew, Gains}
use Rattle.sz_tabs.specs.Rows.{compare_indexes, brought_by, brought_to, rows_of}
use Rattle.sz_tabs.specs.Sorting.{distinct}
use Rattle.sz_tabs.proofs.ForCallers.{rows_decide, brought_there, brought_elsewhere, no_rows}
use Rattle.sz_total.specs.Tables.{indexes_to, table_rows}
use Rattle.sz_total.specs.Aggregates.{declaration_of, count_of, shown_of, family_of, family_for}
use Rattle.sz_total.specs.Entries.{Entries, same_indexes, rows_found, rows_in_order, IsOfTable, AreOfTable, TakesEmit}
use Rattle.sz_total.specs.Laws.{indexes_shown}
use Rattle.sz_total.specs.declared.aggregate.Aggregate.{Aggregate}
use Rattle.sz_total.proofs.ListLemmas.{same_laws, same_is, is_among, distinct_of_more, entered_there}
use Rattle.sz_total.proofs.ListLemmas.{rows_among, indexes_for, all_rows_for, rows_of_table, indexes_of_more}

-- the rows under every index list
pub rows_of_entries : (entries : Entries) (indexes : List Datum)
    → rows_among (rows_in_order entries) indexes ≡ rows_found entries indexes
rows_of_entries entries indexes = all_rows_for (rows_found entries) (keys_of entries) none indexes
  where
    by_found : (found : Option Aggregate) → is_some found ≡ false → option_map_or shown_of found [] ≡ []
    by_found None not_there = refl
    by_found (Some a) not_there = absurd (true≢false not_there)

    none : (others : List Datum) → is_among others (keys_of entries) ≡ false → rows_found entries others ≡ []
    none others not_there =
        by_found (lookup (same_indexes others) entries) (is_some-lookup (same_indexes others) entries ∙ not_there)

-- what an equation of rows says of each index list, and which index lists there are
module _ (table : ℕ) (declaration : Declaration) (emits : List EmitDatum) (entries : Entries)
    (are : rows_in_order entries ≡ table_rows table declaration emits) where
  pub rows_stand : (indexes : List Datum)
      → rows_found entries indexes ≡ rows_of declaration (brought_to table indexes emits)
  rows_stand indexes = sym (rows_of_entries entries indexes) ∙ ap (λ rows. rows_among rows indexes) are
      ∙ rows_of_table table declaration emits indexes

  pub lists_stand : distinct compare_indexes (keys_of entries) ≡ distinct compare_indexes (indexes_to table emits)
  lists_stand =
      sym (indexes_for (rows_found entries) (distinct compare_indexes (keys_of entries))) ∙ ap indexes_shown are
      ∙ indexes_for (λ indexes. rows_of declaration (brought_to table indexes emits))
      (distinct compare_indexes (indexes_to table emits))

-- where the aggregators took an emit, the rows are those of one emit more
pub rows_with_emit : (table : ℕ) (declaration : Declaration) (emits : List EmitDatum) (emit : EmitDatum)
    (old new : Entries) → emit.table ≡ table
    → TakesEmit declaration emit old new → rows_in_order old ≡ table_rows table declaration emits
    → rows_in_order new ≡ table_rows table declaration (emits ++ emit ∷ [])
rows_with_emit table declaration emits emit old new here takes before =
    (λ i. map (λ indexes. record { indexes = indexes; rows = under indexes i }) (lists i))
  where
    went : nat_eq emit.table table ≡ true
    went = eq-eqb emit.table table here

    lists : distinct compare_indexes (keys_of new) ≡ distinct compare_indexes (indexes_to table (emits ++ emit ∷ []))
    lists =
        takes.indexes
        ∙ ap (λ l. insert_key compare_indexes l emit.indexes) (lists_stand table declaration emits old before)
        ∙ sym (distinct_of_more (indexes_to table emits) emit.indexes)
        ∙ ap (distinct compare_indexes) (sym (indexes_of_more table emits emit went))

    under : (indexes : List Datum)
        → rows_found new indexes ≡ rows_of declaration (brought_to table indexes (emits ++ emit ∷ []))
    under indexes = by_test (same_indexes emit.indexes indexes) refl
      where
        by_test : (b : Bool) → same_indexes emit.indexes indexes ≡ b
            → rows_found new indexes ≡ rows_of declaration (brought_to table indexes (emits ++ emit ∷ []))
        by_test true same =
            let is = same_is emit.indexes indexes same in
            ap (rows_found new) (sym is) ∙ takes.rows (brought_to table emit.indexes emits)
            (rows_stand table declaration emits old before emit.indexes)
            ∙ ap (λ l. rows_of declaration (brought_to table l emits ++ brought_by emit ∷ [])) is
            ∙ ap (rows_of declaration)
            (sym (brought_there table indexes emits emit (λ i. went i && same i)))
        by_test false same =
            takes.others indexes same ∙ rows_stand table declaration emits old before indexes
            ∙ ap (rows_of declaration) (sym (brought_elsewhere table indexes emits emit (λ i. went i && same i)))

-- the rows of an aggregator that stands for some list are those of one emit more, for every list with the same rows
gained : (table : Declaration) (old new : Aggregate) (emit : Weighted) (emits others : List Weighted)
    → declaration_of old ≡ table → Gains declaration_of count_of shown_of old new emit
    → StandsFor declaration_of count_of shown_of old emits → shown_of old ≡ rows_of table others
    → shown_of new ≡ rows_of table (others ++ emit ∷ [])
gained table old new emit emits others declared gains stands shown =
    let now = gains.appended emits stands in
    now.rows ∙ ap (λ d. rows_of d (emits ++ emit ∷ [])) (gains.same_table ∙ declared)
    ∙ rows_decide table emits others (emit ∷ []) (ap (λ d. rows_of d emits) (sym declared) ∙ sym stands.rows ∙ shown)

-- an aggregator that takes an emit is one of the table
of_table_more : (table : Declaration) (count : ℕ) (old new : Aggregate) (emit : Weighted) → IsOfTable table count old
    → Gains declaration_of count_of shown_of old new emit → family_of new ≡ family_of old → HasShortLengths emit.value
    → IsOfTable table (count + 1) new
of_table_more table count old new emit is gains family short = record {
  declared = gains.same_table ∙ is.declared;
  family = family ∙ is.family;
  few = omega (arith, is.few, gains.one_more);
  emits = is.emits ++ emit ∷ [];
  stands = gains.appended is.emits is.stands;
  short = All-push (λ (w : Weighted). HasShortLengths w.value) is.emits emit is.short short;
}

-- a new one is one of the table
pub of_table_new : (table : Declaration) (a : Aggregate) → IsNew declaration_of count_of shown_of table a
    → family_of a ≡ family_for table.kind → IsOfTable table 0 a
of_table_new table a new family = record {
  declared = new.declared;
  family = family;
  few = omega (arith, new.empty.counted);
  emits = [];
  stands = new.empty;
  short = All-nil (λ (w : Weighted). HasShortLengths w.value);
}

longer_one : (table : Declaration) (few many : ℕ) → few ≤ many → (a : Aggregate) → IsOfTable table few a
    → IsOfTable table many a
longer_one table few many more a is = record {
  declared = is.declared;
  family = is.family;
  few = omega (arith, is.few, more);
  emits = is.emits;
  stands = is.stands;
  short = is.short;
}

pub of_table_longer : (table : Declaration) (few many : ℕ) → few ≤ many → (entries : Entries)
    → AreOfTable table few entries → AreOfTable table many entries
of_table_longer table few many more entries =
    All-weaker (IsOfTable table few) (IsOfTable table many)
    (λ a is. longer_one table few many more a is) (values_of entries)

-- an aggregator that is found is one of the table
pub of_table_there : (table : Declaration) (count : ℕ) (indexes : List Datum) (entries : Entries) (a : Aggregate)
    → AreOfTable table count entries → lookup (same_indexes indexes) entries ≡ Some a → IsOfTable table count a
of_table_there table count indexes entries a are there =
    subst (λ found. IfSome found (IsOfTable table count)) there
    (IfSome-lookup_from_All (IsOfTable table count) (same_indexes indexes) entries are)

-- what is found where one aggregator was replaced
pub found_replaced : (indexes others : List Datum) (entries : Entries) (old new : Aggregate)
    → lookup (same_indexes indexes) entries ≡ Some old
    → lookup (same_indexes others) (set_value (same_indexes indexes) entries new)
    ≡ cond (same_indexes indexes others) (Some new) (lookup (same_indexes others) entries)
found_replaced indexes others entries old new there =
    lookup-set_value same_laws (same_indexes indexes)
    (λ x y same. same_laws.congr indexes x y same) others new entries (ap is_some there)

-- an aggregator that is there takes the emit
module _ (table : Declaration) (emit : EmitDatum) (entries : Entries) (old new : Aggregate)
    (there : lookup (same_indexes emit.indexes) entries ≡ Some old)
    (gains : Gains declaration_of count_of shown_of old new (brought_by emit)) (family : family_of new ≡ family_of old)
    (short : HasShortLengths emit.value) where
  abbrev set_now : Entries
  set_now = set_value (same_indexes emit.indexes) entries new

  found_now : (indexes : List Datum) → rows_found set_now indexes
      ≡ option_map_or shown_of
      (cond (same_indexes emit.indexes indexes) (Some new) (lookup (same_indexes indexes) entries)) []
  found_now indexes =
      ap (λ found. option_map_or shown_of found []) (found_replaced emit.indexes indexes entries old new there)

  pub taken_there : (count : ℕ) → AreOfTable table count entries → TakesEmit table emit entries set_now
  taken_there count are = record {
    indexes =
        ap (distinct compare_indexes) (keys-set_value (same_indexes emit.indexes) entries new)
        ∙ sym (entered_there (keys_of entries) emit.indexes
        (sym (is_some-lookup (same_indexes emit.indexes) entries) ∙ ap is_some there));
    rows = λ emits shown.
        let one = of_table_there table count emit.indexes entries old are there in
        found_now emit.indexes
        ∙ ap (λ b. option_map_or shown_of (cond b (Some new) (lookup (same_indexes emit.indexes) entries)) [])
        (same_laws.refl emit.indexes)
        ∙ gained table old new (brought_by emit) one.emits emits one.declared gains one.stands
        (ap (λ found. option_map_or shown_of found []) (sym there) ∙ shown);
    others = λ indexes other.
        found_now indexes
        ∙ ap (λ b. option_map_or shown_of (cond b (Some new) (lookup (same_indexes indexes) entries)) []) other;
    still = λ most all.
        All-values-set_value (same_indexes emit.indexes) (IsOfTable table (most + 1)) entries new
        (of_table_longer table most (most + 1) (omega arith) entries all)
        (of_table_more table most old new (brought_by emit)
        (of_table_there table most emit.indexes entries old all there) gains family short);
  }

-- look-ups in front of one entry more
pub found_in_front : (test : List Datum → Bool) (entries : Entries) (k : List Datum) (a : Aggregate) → test k ≡ false
    → lookup test (entries ++ (k, a) ∷ []) ≡ lookup test entries
found_in_front test [] k a other = ap (λ b. cond b (Some a) None) other
found_in_front test (h ∷ hs) k a other = ap (cond (test h.0) (Some h.1)) (found_in_front test hs k a other)

pub found_last : (test : List Datum → Bool) (entries : Entries) (k : List Datum) (a : Aggregate) → test k ≡ true
    → lookup test entries ≡ None → lookup test (entries ++ (k, a) ∷ []) ≡ Some a
found_last test [] k a same none = ap (λ b. cond b (Some a) None) same
found_last test (h ∷ hs) k a same none = by_test (test h.0) none (found_last test hs k a same)
  where
    by_test : (b : Bool) → cond b (Some h.1) (lookup test hs) ≡ None
        → (lookup test hs ≡ None → lookup test (hs ++ (k, a) ∷ []) ≡ Some a)
        → cond b (Some h.1) (lookup test (hs ++ (k, a) ∷ [])) ≡ Some a
    by_test true none later = absurd (cc)
    by_test false none later = later none

-- a new aggregator takes the emit, and stands after the others
module _ (table : Declaration) (emit : EmitDatum) (entries : Entries) (old new : Aggregate)
    (none : lookup (same_indexes emit.indexes) entries ≡ None)
    (is_new : IsNew declaration_of count_of shown_of table old) (is_of : family_of old ≡ family_for table.kind)
    (gains : Gains declaration_of count_of shown_of old new (brought_by emit)) (family : family_of new ≡ family_of old)
    (short : HasShortLengths emit.value) where
  pub taken_new : TakesEmit table emit entries (entries ++ (emit.indexes, new) ∷ [])
  taken_new = record {
    indexes =
        ap (distinct compare_indexes)
        (map-append (λ (p : List Datum × Aggregate). p.0) entries ((emit.indexes, new) ∷ []))
        ∙ distinct_of_more (keys_of entries) emit.indexes;
    rows = λ emits shown.
        ap (λ found. option_map_or shown_of found [])
        (found_last (same_indexes emit.indexes) entries emit.indexes new (same_laws.refl emit.indexes) none)
        ∙ gained table old new (brought_by emit) [] emits is_new.declared gains is_new.empty
        (is_new.empty.rows ∙ ap (λ d. rows_of d []) is_new.declared ∙ no_rows table
        ∙ ap (λ found. option_map_or shown_of found []) (sym none) ∙ shown);
    others = λ indexes other.
        ap (λ found. option_map_or shown_of found [])
        (found_in_front (same_indexes indexes) entries emit.indexes new (same_laws.symm indexes emit.indexes ∙ other));
    still = λ most all.
        subst (All (IsOfTable table (most + 1)))
        (sym (map-append (λ (p : List Datum × Aggregate). p.1) entries ((emit.indexes, new) ∷ [])))
        (All-push (IsOfTable table (most + 1)) (values_of entries) new
        (of_table_longer table most (most + 1) (omega arith) entries all)
        (longer_one table 1 (most + 1) (omega arith) new
        (of_table_more table 0 old new (brought_by emit) (of_table_new table old is_new is_of) gains family short)));
  }

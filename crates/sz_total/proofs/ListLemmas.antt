-- Laws of index lists: which are the same, which are among the distinct ones, and the rows that stand under each.
use Rattle.std.proofs.Common.{◌≡◌, ◌∙◌, ℕ, Bool, true, false, cond, ◌||◌, true≢false, List, [], ◌∷◌}
use Rattle.std.proofs.Common.{◌++◌, map, filter, refl, sym, ap, Ordering, Less, Equal, Greater, is_eq, nat_eq, ◌&&◌}
use Rattle.std.specs.Cmp.{IsEquivalence, Equal-is, eq_by_cmp_equiv}
use Rattle.std.specs.List.{list_any, dedup, IsDistinct}
use Rattle.std.specs.Ordering.{match_ordering, eq_by_cmp}
use Rattle.std.specs.BTreeSet.{insert_key}
use Rattle.std.proofs.lemmas.List.{map-append, append-nil}
use Rattle.std.proofs.lemmas.List.Elements.{filter-append}
use Rattle.std.proofs.lemmas.List.Sorted.{IsPermutation-middle}
use Rattle.std.proofs.lemmas.Map.Keys.{IsDistinct-head, IsDistinct-tail}
use Rattle.sz_types.specs.Tables.{Declaration}
use Rattle.sz_value.specs.Data.{Datum}
use Rattle.sz_tabs.specs.Data.{EmitDatum, RowDatum}
use Rattle.sz_tabs.specs.Rows.{compare_indexes, went_to, brought_by, brought_to, rows_of}
use Rattle.sz_tabs.specs.Sorting.{sorted, distinct}
use Rattle.sz_tabs.proofs.ForCallers.{sorted_in_any_order, distinct_of_both, distinct_of_either, no_rows, brought_elsewhere}
use Rattle.sz_members.proofs.ForCallers.{entered_again, apart_sorted, entered_apart}
use Rattle.sz_total.specs.Tables.{Indexed, indexes_to, table_rows}
use Rattle.sz_total.specs.Entries.{same_indexes}
use Rattle.sz_total.specs.Laws.{indexes_shown}
use Rattle.sz_total.proofs.TablesLemmas.{indexes_total, indexes_tie}

-- sameness is an equivalence, and those that are the same are equal
pub same_laws : IsEquivalence same_indexes
same_laws = eq_by_cmp_equiv indexes_total

pub same_is : (xs ys : List Datum) → same_indexes xs ys ≡ true → xs ≡ ys
same_is xs ys same = indexes_tie xs ys ((Equal-is (compare_indexes xs ys)).0 same)

-- whether an index list is among others
abbrev pub is_among : List Datum → List (List Datum) → Bool
is_among indexes lists = list_any (same_indexes indexes) lists

either_way : (a b c : Bool) → (a || (b || c)) ≡ (b || (a || c))
either_way true true c = refl
either_way true false c = refl
either_way false true c = refl
either_way false false c = refl

twice : (a b : Bool) → (a || b) ≡ (a || (a || b))
twice true b = refl
twice false b = refl

-- an index list is entered
pub among_entered : (indexes : List Datum) (lists : List (List Datum)) (more : List Datum)
    → is_among indexes (insert_key compare_indexes lists more) ≡ (same_indexes indexes more || is_among indexes lists)
among_entered indexes [] more = refl
among_entered indexes (l ∷ ls) more = by_found (compare_indexes more l) refl (among_entered indexes ls more)
  where
    by_found : (found : Ordering) → compare_indexes more l ≡ found
        → is_among indexes (insert_key compare_indexes ls more) ≡ (same_indexes indexes more || is_among indexes ls)
        → is_among indexes (match_ordering found (more ∷ l ∷ ls) (l ∷ ls) (l ∷ insert_key compare_indexes ls more))
        ≡ (same_indexes indexes more || is_among indexes (l ∷ ls))
    by_found Less is later = refl
    by_found Equal is later =
        twice (same_indexes indexes l) (is_among indexes ls)
        ∙ ap (λ m. same_indexes indexes m || is_among indexes (l ∷ ls)) (sym (indexes_tie more l is))
    by_found Greater is later =
        ap (λ b. same_indexes indexes l || b) later
        ∙ either_way (same_indexes indexes l) (same_indexes indexes more) (is_among indexes ls)

-- the distinct index lists are those of the list
pub among_distinct : (indexes : List Datum) (lists : List (List Datum))
    → is_among indexes (distinct compare_indexes lists) ≡ is_among indexes lists
among_distinct indexes [] = refl
among_distinct indexes (l ∷ ls) =
    ap (is_among indexes) (distinct_of_both indexes_total indexes_tie (l ∷ []) ls)
    ∙ among_entered indexes (distinct compare_indexes ls) l
    ∙ ap (λ b. same_indexes indexes l || b) (among_distinct indexes ls)

-- one index list more
pub distinct_of_more : (lists : List (List Datum)) (more : List Datum)
    → distinct compare_indexes (lists ++ more ∷ []) ≡ insert_key compare_indexes (distinct compare_indexes lists) more
distinct_of_more lists more = distinct_of_either indexes_total indexes_tie lists (more ∷ [])

-- one that is there is entered with no effect
pub entered_there : (lists : List (List Datum)) (again : List Datum) → is_among again lists ≡ true
    → insert_key compare_indexes (distinct compare_indexes lists) again ≡ distinct compare_indexes lists
entered_there [] again there = absurd (true≢false (sym there))
entered_there (l ∷ ls) again there = by_test (same_indexes again l) refl there (entered_there ls again)
  where
    first : distinct compare_indexes (l ∷ ls) ≡ insert_key compare_indexes (distinct compare_indexes ls) l
    first = distinct_of_both indexes_total indexes_tie (l ∷ []) ls

    enters : List Datum → List (List Datum) → List (List Datum)
    enters indexes lists = insert_key compare_indexes lists indexes

    by_test : (b : Bool) → same_indexes again l ≡ b → (b || is_among again ls) ≡ true
        → (is_among again ls ≡ true → enters again (distinct compare_indexes ls) ≡ distinct compare_indexes ls)
        → enters again (distinct compare_indexes (l ∷ ls)) ≡ distinct compare_indexes (l ∷ ls)
    by_test true same there later =
        ap (enters again) first ∙ ap (λ x. enters x (enters l (distinct compare_indexes ls))) (same_is again l same)
        ∙ entered_again compare_indexes (distinct compare_indexes ls) l
        ((Equal-is (compare_indexes l l)).0 (same_laws.refl l)) ∙ sym first
    by_test false same there later =
        ap (enters again) first ∙ sym (distinct_of_both indexes_total indexes_tie (again ∷ l ∷ []) ls)
        ∙ ap (dedup (eq_by_cmp compare_indexes))
        (sorted_in_any_order indexes_total indexes_tie (again ∷ l ∷ ls) (l ∷ again ∷ ls)
        (IsPermutation-middle (again ∷ []) l ls))
        ∙ distinct_of_both indexes_total indexes_tie (l ∷ again ∷ []) ls ∙ ap (enters l) (later there) ∙ sym first

-- where no two are the same they are the distinct ones
pub distinct_apart : (lists : List (List Datum)) → IsDistinct same_indexes lists
    → distinct compare_indexes lists ≡ sorted compare_indexes lists
distinct_apart [] apart = refl
distinct_apart (l ∷ ls) apart =
    distinct_of_both indexes_total indexes_tie (l ∷ []) ls
    ∙ ap (λ k. insert_key compare_indexes k l) (distinct_apart ls (IsDistinct-tail same_indexes l ls apart))
    ∙ entered_apart compare_indexes l (sorted compare_indexes ls)
    (apart_sorted compare_indexes l ls (IsDistinct-head same_indexes l ls apart))

-- the rows that stand under an index list, and none where it isn't there
abbrev pub rows_among : List Indexed → List Datum → List RowDatum
rows_among [] indexes = []
rows_among (s ∷ ss) indexes = cond (same_indexes indexes s.indexes) s.rows (rows_among ss indexes)

-- rows for each of these index lists
module _ (rows : List Datum → List RowDatum) where
  abbrev pub rows_for : List (List Datum) → List Indexed
  rows_for lists = map (λ indexes. record { indexes = indexes; rows = rows indexes }) lists

  pub indexes_for : (lists : List (List Datum)) → indexes_shown (rows_for lists) ≡ lists
  indexes_for [] = refl
  indexes_for (l ∷ ls) = ap (λ rest. l ∷ rest) (indexes_for ls)

  pub rows_among_for : (lists : List (List Datum)) (indexes : List Datum)
      → rows_among (rows_for lists) indexes ≡ cond (is_among indexes lists) (rows indexes) []
  rows_among_for [] indexes = refl
  rows_among_for (l ∷ ls) indexes = by_test (same_indexes indexes l) refl (rows_among_for ls indexes)
    where
      by_test : (b : Bool) → same_indexes indexes l ≡ b
          → rows_among (rows_for ls) indexes ≡ cond (is_among indexes ls) (rows indexes) []
          → cond b (rows l) (rows_among (rows_for ls) indexes) ≡ cond (b || is_among indexes ls) (rows indexes) []
      by_test true same later = ap rows (sym (same_is indexes l same))
      by_test false same later = later

  -- where others have no rows these are the rows of every index list
  pub all_rows_for : (lists : List (List Datum))
      → ((indexes : List Datum) → is_among indexes lists ≡ false → rows indexes ≡ [])
      → (indexes : List Datum) → rows_among (rows_for (distinct compare_indexes lists)) indexes ≡ rows indexes
  all_rows_for lists none indexes =
      rows_among_for (distinct compare_indexes lists) indexes
      ∙ ap (λ b. cond b (rows indexes) []) (among_distinct indexes lists)
      ∙ by_test (is_among indexes lists) refl
    where
      by_test : (b : Bool) → is_among indexes lists ≡ b → cond b (rows indexes) [] ≡ rows indexes
      by_test true there = refl
      by_test false not_there = sym (none indexes not_there)

-- no emit went where its index list isn't
nothing_brought : (table : ℕ) (indexes : List Datum) (emits : List EmitDatum)
    → is_among indexes (indexes_to table emits) ≡ false → brought_to table indexes emits ≡ []
nothing_brought table indexes [] not_there = refl
nothing_brought table indexes (e ∷ es) not_there =
    by_table (nat_eq e.table table) not_there (nothing_brought table indexes es)
  where
    to_table : List EmitDatum
    to_table = filter (λ (e : EmitDatum). nat_eq e.table table) es

    went : List EmitDatum
    went = filter (went_to table indexes) es

    by_same : (b : Bool) → same_indexes indexes e.indexes ≡ b → (b || is_among indexes (indexes_to table es)) ≡ false
        → (is_among indexes (indexes_to table es) ≡ false → brought_to table indexes es ≡ [])
        → map brought_by (cond (is_eq (compare_indexes e.indexes indexes)) (e ∷ went) went) ≡ []
    by_same true same none later = absurd (true≢false none)
    by_same false same none later =
        ap (λ b. map brought_by (cond b (e ∷ went) went)) (same_laws.symm e.indexes indexes ∙ same) ∙ later none

    by_table : (b : Bool)
        → is_among indexes (map (λ (e : EmitDatum). e.indexes) (cond b (e ∷ to_table) to_table)) ≡ false
        → (is_among indexes (indexes_to table es) ≡ false → brought_to table indexes es ≡ [])
        → map brought_by (cond (b && is_eq (compare_indexes e.indexes indexes)) (e ∷ went) went) ≡ []
    by_table true none later = by_same (same_indexes indexes e.indexes) refl none later
    by_table false none later = later none

-- the rows of a table under every index list
pub rows_of_table : (table : ℕ) (declaration : Declaration) (emits : List EmitDatum) (indexes : List Datum)
    → rows_among (table_rows table declaration emits) indexes ≡ rows_of declaration (brought_to table indexes emits)
rows_of_table table declaration emits indexes =
    all_rows_for (λ others. rows_of declaration (brought_to table others emits)) (indexes_to table emits)
    (λ others not_there. ap (rows_of declaration) (nothing_brought table others emits not_there)
    ∙ no_rows declaration) indexes

-- one emit more, to the table and to another one
module _ (table : ℕ) (emits : List EmitDatum) (emit : EmitDatum) where
  indexes_by_test : (b : Bool) → nat_eq emit.table table ≡ b
      → indexes_to table (emits ++ emit ∷ [])
      ≡ indexes_to table emits ++ map (λ (e : EmitDatum). e.indexes) (cond b (emit ∷ []) [])
  indexes_by_test b is =
      ap (map (λ (e : EmitDatum). e.indexes))
      (filter-append (λ (e : EmitDatum). nat_eq e.table table) emits (emit ∷ []))
      ∙ map-append (λ (e : EmitDatum). e.indexes) (filter (λ (e : EmitDatum). nat_eq e.table table) emits) _
      ∙ ap (λ b. indexes_to table emits ++ map (λ (e : EmitDatum). e.indexes) (cond b (emit ∷ []) [])) is

  pub indexes_of_more : nat_eq emit.table table ≡ true
      → indexes_to table (emits ++ emit ∷ []) ≡ indexes_to table emits ++ emit.indexes ∷ []
  indexes_of_more went = indexes_by_test true went

  -- an emit to another table leaves the rows
  pub rows_elsewhere : (declaration : Declaration) → nat_eq emit.table table ≡ false
      → table_rows table declaration (emits ++ emit ∷ []) ≡ table_rows table declaration emits
  rows_elsewhere declaration not_here = λ i.
      map (λ indexes. record { indexes = indexes; rows = rows_of declaration (still indexes i) })
      (distinct compare_indexes ((indexes_by_test false not_here ∙ append-nil (indexes_to table emits)) i))
    where
      still : (indexes : List Datum) → brought_to table indexes (emits ++ emit ∷ []) ≡ brought_to table indexes emits
      still indexes = brought_elsewhere table indexes emits emit
          (ap (λ b. b && is_eq (compare_indexes emit.indexes indexes)) not_here)

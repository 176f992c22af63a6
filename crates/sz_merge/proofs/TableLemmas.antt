-- The tables of emits, joined, are the tables of all the emits.
use Rattle.std.proofs.Common.{◌≡◌, ◌∙◌, ℕ, suc, ◌≤◌, nat_eq, Bool, true, false, true≢false, ◌&&◌, ◌||◌, cond, List, [], ◌∷◌, ◌++◌, length, map, zip, IsPermutation, refl, sym, ap, arith}
use Rattle.std.proofs.Common.{Ordering, Less, Equal, Greater, is_eq, append-nil}
use Rattle.std.specs.List.{AllByRecursion, filter}
use Rattle.std.specs.List.Sorted.{IsStrictlySortedBy}
use Rattle.std.proofs.Math.Bool.{or-true}
use Rattle.std.proofs.lemmas.Cmp.{tied_itself}
use Rattle.std.specs.Ordering.{match_ordering}
use Rattle.std.specs.BTreeSet.{insert_key}
use Rattle.sz_types.specs.Tables.{Declaration}
use Rattle.sz_value.specs.Data.{Datum}
use Rattle.sz_tabs.specs.Data.{EmitDatum, RowDatum}
use Rattle.sz_tabs.specs.Rows.{compare_indexes, went_to, brought_by, brought_to, rows_of}
use Rattle.sz_tabs.specs.Sorting.{distinct}
use Rattle.sz_tabs.proofs.ForCallers.{no_rows, brought_by_both, all_entered, distinct_of_both}
use Rattle.sz_core.specs.WellFormed.{is_allowed}
use Rattle.sz_total.specs.Laws.{indexes_shown, ShowsItsIndexes, ForgetsOrder}
use Rattle.sz_total.specs.Tables.{Indexed, indexes_to, rows_under, table_rows}
use Rattle.sz_save_format.specs.Saved.{IsSavedTable, CanBeSaved}
use Rattle.sz_save.specs.Joined.{joined_rows, rows_at}
use Rattle.sz_merge.specs.JoiningLaws.{Joining, given, joined, state_of, IsJoining, JoinsTables, tables_from, HoldInTurn, AddsEmits}
use Rattle.sz_save.proofs.RisingLemmas.{AreAbove, indexes_total, indexes_tie, equal}
use Rattle.sz_merge.proofs.UniqueLemmas.{Rise, all_at, same_tables}
use Rattle.sz_merge.proofs.StateLemmas.{all_joined, state_long, state_rises, joined_at}
use Rattle.sz_merge.proofs.EmitLemmas.{rows_join, some_rows_of}

-- whether the index list is one of these
module _ (indexes : List Datum) where
  abbrev is_here : List Datum → Bool
  is_here list = is_eq (compare_indexes list indexes)

  abbrev is_among : List (List Datum) → Bool
  is_among [] = false
  is_among (list ∷ lists) = is_here list || is_among lists

  either_way : (p q r : Bool) → (q || (p || r)) ≡ (p || (q || r))
  either_way true true r = refl
  either_way true false r = refl
  either_way false true r = refl
  either_way false false r = refl

  once : (p r : Bool) → (p || r) ≡ (p || (p || r))
  once true r = refl
  once false r = refl

  among_entered : (lists : List (List Datum)) (list : List Datum)
      → is_among (insert_key compare_indexes lists list) ≡ (is_here list || is_among lists)
  among_entered [] list = refl
  among_entered (l ∷ lists) list = by_found (compare_indexes list l) refl (among_entered lists list)
    where
      by_found : (found : Ordering) → compare_indexes list l ≡ found
          → is_among (insert_key compare_indexes lists list) ≡ (is_here list || is_among lists)
          → is_among (match_ordering found (list ∷ l ∷ lists) (l ∷ lists) (l ∷ insert_key compare_indexes lists list))
          ≡ (is_here list || (is_here l || is_among lists))
      by_found Less is later = refl
      by_found Equal is later =
          once (is_here l) (is_among lists)
          ∙ ap (λ same. is_here same || (is_here l || is_among lists)) (sym (indexes_tie list l is))
      by_found Greater is later = ap (λ b. is_here l || b) later
          ∙ either_way (is_here list) (is_here l) (is_among lists)

  among_all : (lists : List (List Datum)) → is_among (all_entered compare_indexes lists []) ≡ is_among lists
  among_all [] = refl
  among_all (list ∷ lists) = among_entered (all_entered compare_indexes lists []) list
      ∙ ap (λ b. is_here list || b) (among_all lists)

  among_distinct : (lists : List (List Datum)) → is_among (distinct compare_indexes lists) ≡ is_among lists
  among_distinct lists =
      ap (λ l. is_among (distinct compare_indexes l)) (sym (append-nil lists))
      ∙ ap is_among (distinct_of_both indexes_total indexes_tie lists []) ∙ among_all lists

  -- the rows of the index lists, by what stands under each
  rows_there : (rows : List Datum → List RowDatum) (lists : List (List Datum))
      → rows_at (map (λ list. record { indexes = list; rows = rows list }) lists) indexes
      ≡ cond (is_among lists) (rows indexes) []
  rows_there rows [] = refl
  rows_there rows (list ∷ lists) = by_test (is_here list) refl (rows_there rows lists)
    where
      by_test : (b : Bool) → is_here list ≡ b
          → rows_at (map (λ list. record { indexes = list; rows = rows list }) lists) indexes
          ≡ cond (is_among lists) (rows indexes) []
          → cond b (rows list) (rows_at (map (λ list. record { indexes = list; rows = rows list }) lists) indexes)
          ≡ cond (b || is_among lists) (rows indexes) []
      by_test true is later = ap rows (indexes_tie list indexes (equal (compare_indexes list indexes) is))
      by_test false is later = later

  -- whether it is among those of the emits to a table, by the first emit
  tested : (table : ℕ) (e : EmitDatum) (emits : List EmitDatum) (p : Bool)
      → is_among (map (λ (other : EmitDatum). other.indexes)
      (cond p (e ∷ filter (λ (other : EmitDatum). nat_eq other.table table) emits)
      (filter (λ (other : EmitDatum). nat_eq other.table table) emits)))
      ≡ cond p (is_here e.indexes || is_among (indexes_to table emits)) (is_among (indexes_to table emits))
  tested table e emits true = refl
  tested table e emits false = refl

  -- what no emit has brings nothing
  none_went : (table : ℕ) (emits : List EmitDatum) → is_among (indexes_to table emits) ≡ false
      → filter (went_to table indexes) emits ≡ []
  none_went table [] none = refl
  none_went table (e ∷ emits) none =
      by_tests (nat_eq e.table table) (is_here e.indexes) (sym (tested table e emits (nat_eq e.table table)) ∙ none)
      (none_went table emits)
    where
      by_tests : (p q : Bool)
          → cond p (q || is_among (indexes_to table emits)) (is_among (indexes_to table emits)) ≡ false
          → (is_among (indexes_to table emits) ≡ false → filter (went_to table indexes) emits ≡ [])
          → cond (p && q) (e ∷ filter (went_to table indexes) emits) (filter (went_to table indexes) emits) ≡ []
      by_tests true true none later = absurd (true≢false none)
      by_tests true false none later = later none
      by_tests false q none later = later none

  -- and what one has brings something
  some_went : (table : ℕ) (emits : List EmitDatum) → is_among (indexes_to table emits) ≡ true
      → 1 ≤ length (brought_to table indexes emits)
  some_went table [] some = absurd (true≢false (sym some))
  some_went table (e ∷ emits) some =
      by_tests (nat_eq e.table table) (is_here e.indexes) (sym (tested table e emits (nat_eq e.table table)) ∙ some)
      (some_went table emits)
    where
      by_tests : (p q : Bool)
          → cond p (q || is_among (indexes_to table emits)) (is_among (indexes_to table emits)) ≡ true
          → (is_among (indexes_to table emits) ≡ true → 1 ≤ length (brought_to table indexes emits))
          → 1 ≤ length (map brought_by
          (cond (p && q) (e ∷ filter (went_to table indexes) emits) (filter (went_to table indexes) emits)))
      by_tests true true some later = omega arith
      by_tests true false some later = later some
      by_tests false q some later = later some

  -- under each index list there are the rows of what the emits bring to it
  table_at : (number : ℕ) (table : Declaration) (emits : List EmitDatum)
      → rows_at (table_rows number table emits) indexes ≡ rows_of table (brought_to number indexes emits)
  table_at number table emits =
      rows_there (λ list. rows_of table (brought_to number list emits))
      (distinct compare_indexes (indexes_to number emits))
      ∙ ap (λ b. cond b (rows_of table (brought_to number indexes emits)) []) (among_distinct (indexes_to number emits))
      ∙ by_test (is_among (indexes_to number emits)) refl
    where
      by_test : (b : Bool) → is_among (indexes_to number emits) ≡ b
          → cond b (rows_of table (brought_to number indexes emits)) []
          ≡ rows_of table (brought_to number indexes emits)
      by_test true is = refl
      by_test false is =
          sym (no_rows table) ∙ ap (λ l. rows_of table (map brought_by l)) (sym (none_went number emits is))

pub tables_join : JoinsTables
tables_join number table front later = record {
  rows = λ indexes.
      table_at indexes number table (front ++ later) ∙ ap (rows_of table) (brought_by_both number indexes front later)
      ∙ sym (rows_join table (brought_to number indexes front) (brought_to number indexes later))
      ∙ (λ i. joined_rows table.kind table.limit (sym (table_at indexes number table front) i)
      (sym (table_at indexes number table later) i));
}

all_tables_join : (indexes : List Datum) (number : ℕ) (ds : List Declaration) (front later : List EmitDatum)
    → all_joined ds (all_at indexes (tables_from number ds front)) (all_at indexes (tables_from number ds later))
    ≡ all_at indexes (tables_from number ds (front ++ later))
all_tables_join indexes number [] front later = refl
all_tables_join indexes number (d ∷ ds) front later =
    λ i. sym ((tables_join number d front later).rows indexes) i ∷ all_tables_join indexes (suc number) ds front later i

-- what is left of a joining can be saved
left_saved : (j : Joining) → IsJoining j → CanBeSaved (state_of j)
left_saved (given s) h = h
left_saved (joined f b s) h = h.2.can

-- it has the rows of all the emits
left_at : (ds : List Declaration) (indexes : List Datum) (j : Joining) (emits : List EmitDatum) → IsJoining j
    → (state_of j).decls ≡ ds → HoldInTurn j emits
    → all_at indexes (state_of j).tables ≡ all_at indexes (tables_from 0 ds emits)
left_at ds indexes (given s) emits h is held = ap (all_at indexes) (held ∙ ap (λ l. tables_from 0 l emits) is)
left_at ds indexes (joined f b s) emits h is held =
    let gives = h.2 in
    let front_is = sym gives.joins.decls ∙ is in
    joined_at ds (state_of f) (state_of b) s indexes front_is gives.joins
    ∙ (λ i. all_joined ds (left_at ds indexes f held.0 h.0 front_is held.3 i)
    (left_at ds indexes b held.1 h.1 (gives.joins.same ∙ front_is) held.4 i))
    ∙ all_tables_join indexes 0 ds held.0 held.1 ∙ ap (λ l. all_at indexes (tables_from 0 ds l)) (sym held.2)

-- ---- the index lists of tables of emits rise, and have rows

further_among : (list : List Datum) (all lists : List (List Datum)) → AllByRecursion (λ l. is_among l all ≡ true) lists
    → AllByRecursion (λ l. is_among l (list ∷ all) ≡ true) lists
further_among list all [] h = tt
further_among list all (l ∷ lists) h =
    (ap (λ b. is_here l list || b) h.0 ∙ or-true (is_here l list), further_among list all lists h.1)

all_among : (lists : List (List Datum)) → AllByRecursion (λ l. is_among l lists ≡ true) lists
all_among [] = tt
all_among (list ∷ lists) = (
  ap (λ found. is_eq found || is_among list lists) (tied_itself indexes_total list),
  further_among list lists lists (all_among lists),
)

module _ (number : ℕ) (table : Declaration) (allowed : is_allowed table ≡ true) (emits : List EmitDatum) where
  above_shown : (list : List Datum) (lists : List (List Datum))
      → AllByRecursion (λ other. compare_indexes list other ≡ Less)
      (indexes_shown (map (rows_under number table emits) lists))
      → AreAbove list (map (rows_under number table emits) lists)
  above_shown list [] h = tt
  above_shown list (l ∷ lists) h = (h.0, above_shown list lists h.1)

  lists_rise : (lists : List (List Datum))
      → AllByRecursion (λ l. is_among l (distinct compare_indexes (indexes_to number emits)) ≡ true) lists
      → IsStrictlySortedBy compare_indexes (indexes_shown (map (rows_under number table emits) lists))
      → Rise (map (rows_under number table emits) lists)
  unfolding IsStrictlySortedBy
  lists_rise [] there up = tt
  lists_rise (l ∷ lists) there up = (
    some_rows_of table allowed (brought_to number l emits)
        (some_went l number emits (sym (among_distinct l (indexes_to number emits)) ∙ there.0)),
    above_shown l lists up.0,
    lists_rise lists there.1 up.1,
  )

  table_rises : ShowsItsIndexes number table emits → Rise (table_rows number table emits)
  table_rises shows =
      let lists = distinct compare_indexes (indexes_to number emits) in lists_rise lists (all_among lists) shows.rises

tables_rise : ((table : ℕ) (d : Declaration) (emits : List EmitDatum) → ShowsItsIndexes table d emits)
    → (bound number : ℕ) (ds : List Declaration) (ts : List (List Indexed)) (emits : List EmitDatum)
    → length ts ≡ length ds → AllByRecursion (IsSavedTable bound) (zip ds ts)
    → AllByRecursion Rise (tables_from number ds emits)
tables_rise shows bound number [] ts emits long h = tt
tables_rise shows bound number (d ∷ ds) [] emits long h = absurd (omega (arith, long))
tables_rise shows bound number (d ∷ ds) (t ∷ ts) emits long h = (
  table_rises number d h.0.declaration.allowed emits (shows number d emits),
  tables_rise shows bound (suc number) ds ts emits (omega (arith, long)) h.1,
)

as_many_tables : (number : ℕ) (ds : List Declaration) (emits : List EmitDatum)
    → length (tables_from number ds emits) ≡ length ds
as_many_tables number [] emits = refl
as_many_tables number (d ∷ ds) emits = omega (arith, as_many_tables (suc number) ds emits)

module _ (forgets : ForgetsOrder)
    (shows : (table : ℕ) (d : Declaration) (emits : List EmitDatum) → ShowsItsIndexes table d emits) where
  tables_moved : (number : ℕ) (ds : List Declaration) (emits others : List EmitDatum) → IsPermutation emits others
      → tables_from number ds emits ≡ tables_from number ds others
  tables_moved number [] emits others moved = refl
  tables_moved number (d ∷ ds) emits others moved =
      λ i. forgets number d emits others moved i ∷ tables_moved (suc number) ds emits others moved i

  pub emits_join : AddsEmits
  emits_join j all emits others h decls bound held moved all_held =
      let s = state_of j in
      let ds = s.decls in
      let can = left_saved j h in
      let of_all : all.tables ≡ tables_from 0 ds others = all_held ∙ ap (λ l. tables_from 0 l others) decls in
      let tables = same_tables s.tables (tables_from 0 ds others)
      (state_long ds s refl can ∙ sym (as_many_tables 0 ds others)) (state_rises ds s refl can)
      (tables_rise shows s.bound 0 ds s.tables others can.as_many can.each) (λ indexes.
      left_at ds indexes j emits h refl held ∙ ap (all_at indexes) (tables_moved 0 ds emits others moved)) in
      λ i. record { bound = sym bound i; decls = sym decls i; tables = (tables ∙ sym of_all) i }

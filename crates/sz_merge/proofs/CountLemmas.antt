-- How many index lists and rows there are in a saved file, and in what is joined: no more than the files have bytes.
-- So their numbers can be spelled again.
use Rattle.std.proofs.Common.{◌≡◌, ℕ, zero, suc, ◌+◌, ◌^◌, ◌<◌, ◌≤◌, nat_lt, Bool, true, false, cond, ◌||◌, ⊎_elim, List, [], ◌∷◌, ◌++◌, length}
use Rattle.std.proofs.Common.{map, take, flat_map, zip, refl, sym, ap, subst, arith}
use Rattle.std.proofs.Common.{Ordering}
use Rattle.std.specs.Prelude.{option_to_list}
use Rattle.std.specs.List.{AllByRecursion, dedup, dedup_from}
use Rattle.std.specs.Ordering.{eq_by_cmp}
use Rattle.std.proofs.lemmas.Bool.{cond_both}
use Rattle.std.proofs.lemmas.List.{length-append}
use Rattle.std.specs.Cmp.{IsTotalOrder}
use Rattle.sz_types.specs.Data.{Shape}
use Rattle.sz_types.specs.Tables.{Declaration}
use Rattle.sz_types.specs.declared.table.TableKind.{TableKind}
use Rattle.sz_types.specs.declared.table.TableKind.TheVariants.{Sum, Maximum, Minimum, Set, Collection}
use Rattle.sz_value.specs.Data.{Datum}
use Rattle.sz_value.specs.Order.{compare}
use Rattle.sz_value.specs.Total.{compare_total}
use Rattle.sz_flat.specs.Spelling.{length_bytes}
use Rattle.sz_tabs.specs.Data.{Shown, one, sums, overflow, RowDatum}
use Rattle.sz_tabs.specs.Sorting.{sorted, distinct}
use Rattle.sz_tabs.specs.Rows.{value_row, overflow_row, set_rows}
use Rattle.sz_total.specs.Tables.{Indexed}
use Rattle.sz_save_format.specs.Declarations.{declaration_bytes}
use Rattle.sz_save_format.specs.Entries.{count_bytes, shown_bytes, rank_bytes, row_bytes, front_bytes, entry_bytes, entries_bytes, overflows}
use Rattle.sz_save_format.specs.Entries.{ShowsSavedValue, IsSavedRow, AreSumRows, HaveRows, IsSavedEntry}
use Rattle.sz_save_format.specs.Saved.{SavedState, mark, table_bytes, tables_of, IsSavedTable, Saves}
use Rattle.sz_save.specs.Joined.{value_in, values_shown, least_rows, greatest_rows, joined_sums, joined_sets, joined_rows}
use Rattle.sz_save.specs.Walk.{joined_entries, joined_tables, HasCountedRows, AreCounted}
use Rattle.sz_save.proofs.RisingLemmas.{all_hold, joined_count}
use Rattle.sz_save.proofs.RowLemmas.{least_rows_total, greatest_rows_total, sorted_long}

-- ---- rows, by their bytes

module _ (element : Shape) where
  row_long : (ranked : Bool) (row : RowDatum) → IsSavedRow ranked element row → 1 ≤ length (row_bytes row)
  row_long ranked row h = by_shown row.shown h.value
    where
      by_shown : (shown : Shown) → ShowsSavedValue element shown
          → 1 ≤ length (shown_bytes shown ++ rank_bytes row.weight)
      by_shown (one value) g = omega arith
      by_shown (sums ns) g = absurd g
      by_shown overflow g = absurd g

  rows_long : (ranked : Bool) (rows : List RowDatum) → AllByRecursion (IsSavedRow ranked element) rows
      → length rows ≤ length (flat_map row_bytes rows)
  rows_long ranked [] h = omega arith
  rows_long ranked (r ∷ rows) h =
      let both = length-append (row_bytes r) (flat_map row_bytes rows) in
      omega (arith, both, row_long ranked r h.0, rows_long ranked rows h.1)

  behind_front : (front : List ℕ) (ranked : Bool) (rows : List RowDatum)
      → AllByRecursion (IsSavedRow ranked element) rows → length rows ≤ length (front ++ flat_map row_bytes rows)
  behind_front front ranked rows h =
      let both = length-append front (flat_map row_bytes rows) in omega (arith, both, rows_long ranked rows h)

  sums_long : (bound : ℕ) (rows : List RowDatum) → AreSumRows bound element rows
      → (length rows ≤ length (flat_map row_bytes rows)) × (1 ≤ length rows)
  sums_long bound [] h = absurd h
  sums_long bound (r ∷ s ∷ rows) h = absurd h
  sums_long bound (r ∷ []) h = (by_shown r.shown h.sums, omega arith)
    where
      by_shown : (shown : Shown) → Rattle.sz_save_format.specs.Entries.AreSavedSums bound element shown
          → 1 ≤ length ((shown_bytes shown ++ rank_bytes r.weight) ++ [])
      by_shown (sums ns) g = omega arith
      by_shown (one value) g = absurd g
      by_shown overflow g = absurd g

  -- no more rows than bytes under an index list, and at least one
  pub rows_in : (kind : TableKind) (bound limit : ℕ) (rows : List RowDatum) → HaveRows kind bound limit element rows
      → (length rows ≤ length (front_bytes kind rows ++ flat_map row_bytes rows)) × (1 ≤ length rows)
  rows_in Sum bound limit rows h = sums_long bound rows h
  rows_in Maximum bound limit rows h = (behind_front (front_bytes Maximum rows) true rows h.each, h.some)
  rows_in Minimum bound limit rows h = (behind_front (front_bytes Minimum rows) true rows h.each, h.some)
  rows_in Set bound limit rows h =
      ⊎_elim (λ is. subst (λ l. (length l ≤ length (front_bytes Set l ++ flat_map row_bytes l)) × (1 ≤ length l))
      (sym is) (omega arith, omega arith))
      (λ are. (behind_front (front_bytes Set rows) false rows are.each, are.some)) h
  rows_in Collection bound limit rows h = (behind_front (front_bytes Collection rows) false rows h.each, h.some)

-- ---- lists of bytes, one after the other

module _ {X : Type 0} (f : X → List ℕ) where
  -- no more than bytes, where each has some
  few_in : (xs : List X) → AllByRecursion (λ x. 1 ≤ length (f x)) xs → length xs ≤ length (flat_map f xs)
  few_in [] h = omega arith
  few_in (x ∷ xs) h = let both = length-append (f x) (flat_map f xs) in omega (arith, both, h.0, few_in xs h.1)

  -- what is so for each by its bytes is so for each by all bytes
  module _ (P : ℕ → X → Type 0) (more : (m n : ℕ) (x : X) → m ≤ n → P m x → P n x) where
    each_in : (n : ℕ) (xs : List X) → length (flat_map f xs) ≤ n → AllByRecursion (λ x. P (length (f x)) x) xs
        → AllByRecursion (P n) xs
    each_in n [] long h = tt
    each_in n (x ∷ xs) long h =
        let both = length-append (f x) (flat_map f xs) in
        (more (length (f x)) n x (omega (arith, both, long)) h.0, each_in n xs (omega (arith, both, long)) h.1)

-- ---- tables

-- so many rows at most
abbrev HasFewRows : ℕ → Indexed → Type 0
HasFewRows n entry = length entry.rows ≤ n

-- so many index lists at most, and under each so many rows
abbrev AreFew : ℕ → List Indexed → Type 0
AreFew n entries = (length entries ≤ n) × AllByRecursion (HasFewRows n) entries

abbrev pub HasFew : ℕ → SavedState → Type 0
HasFew n saved = AllByRecursion (AreFew n) saved.tables

all_follow : {X : Type 0} (P Q : X → Type 0) → ((x : X) → P x → Q x) → (xs : List X) → AllByRecursion P xs
    → AllByRecursion Q xs
all_follow P Q step [] h = tt
all_follow P Q step (x ∷ xs) h = (step x h.0, all_follow P Q step xs h.1)

more_rows : (m n : ℕ) (e : Indexed) → m ≤ n → HasFewRows m e → HasFewRows n e
more_rows m n e le h = omega (arith, le, h)

more_few : (m n : ℕ) (es : List Indexed) → m ≤ n → AreFew m es → AreFew n es
more_few m n es le h =
    (omega (arith, le, h.0), all_follow (HasFewRows m) (HasFewRows n) (λ e. more_rows m n e le) es h.1)

entry_in : (bound : ℕ) (table : Declaration) (e : Indexed) → IsSavedEntry bound table e
    → HasFewRows (length (entry_bytes table.kind e)) e × (1 ≤ length (entry_bytes table.kind e))
entry_in bound table e h =
    let rows = rows_in table.element table.kind bound table.limit e.rows h.rows in
    let behind = front_bytes table.kind e.rows ++ flat_map row_bytes e.rows in
    let both = length-append (flat_map Rattle.sz_save_format.specs.Entries.value_bytes e.indexes) behind in
    (omega (arith, both, rows.0), omega (arith, both, rows.0, rows.1))

entries_in : (bound : ℕ) (table : Declaration) (es : List Indexed) → AllByRecursion (IsSavedEntry bound table) es
    → AreFew (length (flat_map (entry_bytes table.kind) es)) es
entries_in bound table es h =
    let each = all_follow (IsSavedEntry bound table)
    (λ e. HasFewRows (length (entry_bytes table.kind e)) e × (1 ≤ length (entry_bytes table.kind e)))
    (entry_in bound table) es h in (
      few_in (entry_bytes table.kind) es
          (all_follow (λ e. HasFewRows (length (entry_bytes table.kind e)) e × (1 ≤ length (entry_bytes table.kind e)))
          (λ e. 1 ≤ length (entry_bytes table.kind e)) (λ e both. both.1) es each),
      each_in (entry_bytes table.kind) HasFewRows more_rows
          (length (flat_map (entry_bytes table.kind) es)) es (omega arith)
          (all_follow (λ e. HasFewRows (length (entry_bytes table.kind e)) e × (1 ≤ length (entry_bytes table.kind e)))
          (λ e. HasFewRows (length (entry_bytes table.kind e)) e) (λ e both. both.0) es each),
    )

abbrev TableHasFew : ℕ → Declaration × List Indexed → Type 0
TableHasFew n table = AreFew n table.1

table_in : (bound : ℕ) (table : Declaration × List Indexed) → IsSavedTable bound table
    → TableHasFew (length (table_bytes table)) table
table_in bound table h =
    let both = length-append (declaration_bytes table.0) (entries_bytes table.0.kind table.1) in
    let more = length-append (count_bytes (length table.1)) (flat_map (entry_bytes table.0.kind) table.1) in
    more_few (length (flat_map (entry_bytes table.0.kind) table.1))
    (length (table_bytes table)) table.1 (omega (arith, both, more))
    (entries_in bound table.0 table.1 h.entries.each)

-- what is so for the tables beside their declarations
of_pairs : (n : ℕ) (ds : List Declaration) (ts : List (List Indexed)) → length ts ≡ length ds
    → AllByRecursion (TableHasFew n) (zip ds ts) → AllByRecursion (AreFew n) ts
of_pairs n [] [] long h = tt
of_pairs n [] (t ∷ ts) long h = absurd (omega (arith, long))
of_pairs n (d ∷ ds) [] long h = tt
of_pairs n (d ∷ ds) (t ∷ ts) long h = (h.0, of_pairs n ds ts (omega (arith, long)) h.1)

-- a saved file has no more index lists and rows than bytes
pub few_saved : (bytes : List ℕ) (saved : SavedState) (n : ℕ) → Saves bytes saved → length bytes ≤ n → HasFew n saved
few_saved bytes saved n h long =
    let tables = flat_map table_bytes (tables_of saved) in
    let rest = length_bytes (length saved.decls) ++ tables in
    let whole = ap length h.is in
    let first = length-append mark (count_bytes saved.bound ++ rest) in
    let second = length-append (count_bytes saved.bound) rest in
    let third = length-append (length_bytes (length saved.decls)) tables in
    of_pairs n saved.decls saved.tables h.can.as_many
    (each_in table_bytes TableHasFew (λ l m t. more_few l m t.1) n (tables_of saved)
    (omega (arith, long, whole, first, second, third)) (all_follow (IsSavedTable saved.bound)
    (λ t. TableHasFew (length (table_bytes t)) t) (table_in saved.bound) (tables_of saved) h.can.each))

-- ---- rows that are joined

shown_few : (rows : List RowDatum) → length (values_shown rows) ≤ length rows
shown_few [] = omega arith
shown_few (r ∷ rows) = by_shown r.shown (shown_few rows)
  where
    by_shown : (shown : Shown) → length (values_shown rows) ≤ length rows
        → length (option_to_list (value_in shown) ++ values_shown rows) ≤ length (r ∷ rows)
    by_shown (one value) few = omega (arith, few)
    by_shown (sums ns) few = omega (arith, few)
    by_shown overflow few = omega (arith, few)

both_shown : (rows others : List RowDatum)
    → length (values_shown rows ++ values_shown others) ≤ length rows + length others
both_shown rows others =
    let both = length-append (values_shown rows) (values_shown others) in
    omega (arith, both, shown_few rows, shown_few others)

few_taken : {X : Type 0} (n : ℕ) (xs : List X) → length (take n xs) ≤ length xs
few_taken zero xs = omega arith
few_taken (suc n) [] = omega arith
few_taken (suc n) (x ∷ xs) = omega (arith, few_taken n xs)

taken_both : (limit : ℕ) (order : RowDatum → RowDatum → Ordering) → IsTotalOrder order → (rows others : List RowDatum)
    → length (take limit (sorted order (rows ++ others))) ≤ length rows + length others
taken_both limit order total rows others =
    let both = length-append rows others in
    let same = sorted_long total (rows ++ others) in
    omega (arith, few_taken limit (sorted order (rows ++ others)), same, both)

map_long : {X Y : Type 0} (f : X → Y) (xs : List X) → length (map f xs) ≡ length xs
map_long f [] = refl
map_long f (x ∷ xs) = omega (arith, map_long f xs)

module _ {X : Type 0} (cmp : X → X → Ordering) where
  few_from : (k : X) (xs : List X) → length (dedup_from (eq_by_cmp cmp) k xs) ≤ 1 + length xs
  few_from k [] = omega arith
  few_from k (x ∷ xs) =
      cond_both (eq_by_cmp cmp x k) (dedup_from (eq_by_cmp cmp) k xs) (k ∷ dedup_from (eq_by_cmp cmp) x xs)
      (λ l. length l ≤ 1 + length (x ∷ xs)) (λ _. omega (arith, few_from k xs)) (λ _. omega (arith, few_from x xs))

  few_distinct_of : (xs : List X) → length (dedup (eq_by_cmp cmp) xs) ≤ length xs
  few_distinct_of [] = omega arith
  few_distinct_of (x ∷ xs) = omega (arith, few_from x xs)

few_distinct : (values : List Datum) → length (distinct compare values) ≤ length values
few_distinct values = let same = sorted_long compare_total values in
    omega (arith, few_distinct_of compare (sorted compare values), same)

set_few : (limit : ℕ) (values : List Datum) → length (set_rows limit (distinct compare values)) ≤ length values
set_few limit values = by_test (nat_lt limit (length (distinct compare values))) refl
  where
    by_test : (b : Bool) → nat_lt limit (length (distinct compare values)) ≡ b
        → length (cond b (overflow_row ∷ []) (map value_row (distinct compare values))) ≤ length values
    by_test true is = omega
        (arith, Rattle.std.proofs.Common.ltb-true limit (length (distinct compare values)) is, few_distinct values)
    by_test false is = omega (arith, map_long value_row (distinct compare values), few_distinct values)

some_overflow : (rows : List RowDatum) → overflows rows ≡ true → 1 ≤ length rows
some_overflow [] is = absurd (Rattle.std.proofs.Common.true≢false (sym is))
some_overflow (r ∷ rows) is = omega arith

sets_few : (limit : ℕ) (rows others : List RowDatum)
    → length (joined_sets limit rows others) ≤ length rows + length others
sets_few limit rows others = by_tests (overflows rows) (overflows others) refl refl
  where
    values : List Datum
    values = values_shown rows ++ values_shown others

    by_tests : (p q : Bool) → overflows rows ≡ p → overflows others ≡ q
        → length (cond (p || q) (overflow_row ∷ []) (set_rows limit (distinct compare values)))
        ≤ length rows + length others
    by_tests true q is also = omega (arith, some_overflow rows is)
    by_tests false true is also = omega (arith, some_overflow others also)
    by_tests false false is also = omega (arith, set_few limit values, both_shown rows others)

sums_few : (rows others : List RowDatum) → length (joined_sums rows others) ≤ length rows + length others
sums_few [] others = omega arith
sums_few (r ∷ rows) [] = omega arith
sums_few (r ∷ rows) (o ∷ others) = omega arith

-- no more rows than on both sides
rows_few : (kind : TableKind) (limit : ℕ) (rows others : List RowDatum)
    → length (joined_rows kind limit rows others) ≤ length rows + length others
rows_few Sum limit rows others = sums_few rows others
rows_few Maximum limit rows others = taken_both limit greatest_rows greatest_rows_total rows others
rows_few Minimum limit rows others = taken_both limit least_rows least_rows_total rows others
rows_few Set limit rows others = sets_few limit rows others
rows_few Collection limit rows others =
    let values = values_shown rows ++ values_shown others in
    let same = sorted_long compare_total values in
    omega (arith, map_long value_row (sorted compare values), same, both_shown rows others)

-- ---- tables that are joined

module _ (kind : TableKind) (limit m n : ℕ) where
  table_few : (es os : List Indexed) → AreFew m es → AreFew n os → AreFew (m + n) (joined_entries kind limit es os)
  table_few es os g h = (
    omega (arith, joined_count kind limit es os, g.0, h.0),
    all_hold kind limit (HasFewRows (m + n)) (HasFewRows m) (HasFewRows n)
        (λ e a. omega (arith, rows_few kind limit e.rows [], a))
        (λ o b. omega (arith, rows_few kind limit [] o.rows, b))
        (λ e o a b. omega (arith, rows_few kind limit e.rows o.rows, a, b)) es os g.1 h.1,
  )

pub tables_few : (m n : ℕ) (ds : List Declaration) (ts us : List (List Indexed)) → AllByRecursion (AreFew m) ts
    → AllByRecursion (AreFew n) us → AllByRecursion (AreFew (m + n)) (joined_tables ds ts us)
tables_few m n [] ts us g h = tt
tables_few m n (d ∷ ds) [] us g h = tt
tables_few m n (d ∷ ds) (t ∷ ts) [] g h = tt
tables_few m n (d ∷ ds) (t ∷ ts) (u ∷ us) g h =
    (table_few d.kind d.limit m n t u g.0 h.0, tables_few m n ds ts us g.1 h.1)

counted_rows : (n : ℕ) (es : List Indexed) → n < 2 ^ 64 → AllByRecursion (HasFewRows n) es
    → AllByRecursion HasCountedRows es
counted_rows n [] low h = tt
counted_rows n (e ∷ es) low h = (omega (arith, low, h.0), counted_rows n es low h.1)

-- so few can be spelled
pub few_counted : (n : ℕ) (ts : List (List Indexed)) → n < 2 ^ 64 → AllByRecursion (AreFew n) ts
    → AllByRecursion AreCounted ts
few_counted n [] low h = tt
few_counted n (t ∷ ts) low h = ((omega (arith, low, h.0.0), counted_rows n t low h.0.1), few_counted n ts low h.1)

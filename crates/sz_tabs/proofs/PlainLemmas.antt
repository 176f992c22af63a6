-- What a plain aggregator makes of the emits that it keeps.
use Rattle.std.proofs.Common.{◌≡◌, ◌∙◌, ℕ, ◌+◌, ◌<◌, ◌≤◌, ℤ, Bool, true, false, cond, Option, List, [], ◌∷◌, ◌++◌, map, take, length, refl, sym, ap, subst, arith, lt-ltb, le-ltb, Ordering, IsSorted}
use Rattle.std.specs.Ordering.{on, eq_by_cmp}
use Rattle.std.specs.List.{dedup, dedup_from, take-map}
use Rattle.std.specs.List.Sorted.{IsStable}
use Rattle.std.specs.List.Retain.{IsFiltered, DiffersFromLast}
use Rattle.std.specs.Cmp.{IsTotalOrder, on_total}
use Rattle.std.specs.declared.cmp.Reverse.{Reverse}
use Rattle.std.proofs.lemmas.List.{length-map, length-append}
use Rattle.std.proofs.lemmas.List.Filters.{dedup_is}
use Rattle.sz_types.specs.Tables.{Declaration}
use Rattle.sz_value.specs.Data.{Datum}
use Rattle.sz_value.specs.Order.{compare}
use Rattle.sz_value.specs.Seen.{seen}
use Rattle.sz_value.specs.Total.{compare_total}
use Rattle.sz_value.specs.declared.value.Value.{Value}
use Rattle.sz_tabs.specs.Data.{Weighted, RowDatum}
use Rattle.sz_tabs.specs.Aggregating.{Gains, Joins}
use Rattle.sz_tabs.specs.Listing.{Listing}
use Rattle.sz_tabs.specs.Sorting.{sorted, distinct}
use Rattle.sz_tabs.specs.Rows.{least_first, greatest_first, value_row, overflow_row, set_rows, rows_of}
use Rattle.sz_tabs.specs.SeenKept.{seen_least, seen_greatest}
use Rattle.sz_tabs.proofs.SortingLemmas.{stable_sort_is_sorted, sorted_mapped}
use Rattle.sz_tabs.proofs.RowsLemmas.{least_total, greatest_total}
use Rattle.sz_tabs.proofs.JoiningLemmas.{rows_decide, rows_join}

-- what a stable sort by what is seen of the elements leaves, as it is seen
sorted_as_seen : {X Y : Type 0} (cmp : Y → Y → Ordering) → IsTotalOrder cmp → (f : X → Y) (old new : List X)
    → IsSorted (on f cmp) new → IsStable (on f cmp) old new → map f new ≡ sorted cmp (map f old)
sorted_as_seen cmp total f old new in_order stable =
    ap (map f) (stable_sort_is_sorted (on_total f total) old new in_order stable) ∙ sym (sorted_mapped cmp f old)

pub values_sorted : (old new : List Value) → IsSorted (on seen compare) new → IsStable (on seen compare) old new
    → map seen new ≡ sorted compare (map seen old)
values_sorted = sorted_as_seen compare compare_total seen

-- the first of them
pub taken_as_seen : {X Y : Type 0} (f : X → Y) (n : ℕ) (xs : List X) (ys : List Y) → map f xs ≡ ys
    → map f (take n xs) ≡ take n ys
taken_as_seen f n xs ys are = sym (take-map f n xs) ∙ ap (take n) are

-- a list without repeats of neighbours, through a function
without_repeats_from : {X Y : Type 0} (same : Y → Y → Bool) (f : X → Y) (k : X) (xs : List X)
    → dedup_from same (f k) (map f xs) ≡ map f (dedup_from (on f same) k xs)
without_repeats_from same f k [] = refl
without_repeats_from same f k (x ∷ xs) =
    by_test (same (f x) (f k)) (without_repeats_from same f k xs) (without_repeats_from same f x xs)
  where
    by_test : (b : Bool) → dedup_from same (f k) (map f xs) ≡ map f (dedup_from (on f same) k xs)
        → dedup_from same (f x) (map f xs) ≡ map f (dedup_from (on f same) x xs)
        → cond b (dedup_from same (f k) (map f xs)) (f k ∷ dedup_from same (f x) (map f xs))
        ≡ map f (cond b (dedup_from (on f same) k xs) (k ∷ dedup_from (on f same) x xs))
    by_test true kept next = kept
    by_test false kept next = ap (λ l. f k ∷ l) next

without_repeats : {X Y : Type 0} (same : Y → Y → Bool) (f : X → Y) (xs : List X)
    → dedup same (map f xs) ≡ map f (dedup (on f same) xs)
without_repeats same f [] = refl
without_repeats same f (x ∷ xs) = without_repeats_from same f x xs

-- what is left of sorted values without repeats
pub distinct_left : (old new : List Value) (values : List Datum)
    → IsFiltered (DiffersFromLast (on seen (eq_by_cmp compare))) [] old new
    → map seen old ≡ sorted compare values → map seen new ≡ distinct compare values
distinct_left old new values filtered are =
    ap (map seen) (dedup_is (on seen (eq_by_cmp compare)) old new filtered)
    ∙ sym (without_repeats (eq_by_cmp compare) seen old) ∙ ap (dedup (eq_by_cmp compare)) are

-- what is left of the least weights, and of the greatest, once they are sorted
pub least_sorted : (old new : List (Option ℤ × Value)) → IsSorted (on seen_least least_first) new
    → IsStable (on seen_least least_first) old new → map seen_least new ≡ sorted least_first (map seen_least old)
least_sorted = sorted_as_seen least_first least_total seen_least

pub greatest_sorted : (old new : List (Reverse (Option ℤ) × Value)) → IsSorted (on seen_greatest greatest_first) new
    → IsStable (on seen_greatest greatest_first) old new
    → map seen_greatest new ≡ sorted greatest_first (map seen_greatest old)
greatest_sorted = sorted_as_seen greatest_first greatest_total seen_greatest

-- a set with more values than it can hold, and one that holds them
pub set_is_full : (limit : ℕ) (left : List Value) (ds : List Datum) → map seen left ≡ ds → limit < length left
    → set_rows limit ds ≡ overflow_row ∷ []
set_is_full limit left ds is above =
    ap (λ b. cond b (overflow_row ∷ []) (map value_row ds))
    (lt-ltb limit (length ds) (omega (arith, above, ap length is, length-map left seen)))

pub set_holds : (limit : ℕ) (left : List Value) (ds : List Datum) → map seen left ≡ ds → length left ≤ limit
    → set_rows limit ds ≡ map value_row (map seen left)
set_holds limit left ds is below =
    ap (λ b. cond b (overflow_row ∷ []) (map value_row ds))
    (le-ltb limit (length ds) (omega (arith, below, ap length is, length-map left seen)))
    ∙ ap (map value_row) (sym is)

-- A plain aggregator shows the rows of the emits that it keeps, so it stands for each list that has as many and the
-- same rows.
abbrev plain_declaration : Listing → Declaration
plain_declaration a = a.table

abbrev plain_count : Listing → ℕ
plain_count a = length a.emits

abbrev plain_shown : Listing → List RowDatum
plain_shown a = rows_of a.table a.emits

module _ (old new : Listing) (same : new.table ≡ old.table) where
  pub plain_gains : (emit : Weighted) → new.emits ≡ old.emits ++ emit ∷ []
      → Gains plain_declaration plain_count plain_shown old new emit
  plain_gains emit kept = record {
    same_table = same;
    one_more = ap length kept ∙ length-append old.emits (emit ∷ []);
    appended = λ emits stands. record {
      rows =
          (λ i. rows_of (same i) (kept i)) ∙ rows_decide old.table old.emits emits (emit ∷ []) stands.rows
          ∙ ap (λ t. rows_of t (emits ++ emit ∷ [])) (sym same);
      counted = ap length kept ∙ length-append old.emits (emit ∷ []) ∙ ap (λ n. n + 1) stands.counted
          ∙ sym (length-append emits (emit ∷ []));
    };
  }

  pub plain_joins : (other : Listing) → other.table ≡ old.table → new.emits ≡ old.emits ++ other.emits
      → Joins plain_declaration plain_count plain_shown old other new
  plain_joins other one_table kept = record {
    same_table = same;
    both_counts = ap length kept ∙ length-append old.emits other.emits;
    joined = λ front later stands beside. record {
      rows =
          (λ i. rows_of (same i) (kept i))
          ∙ rows_join old.table old.emits front other.emits later stands.rows
          (subst (λ t. rows_of t other.emits ≡ rows_of t later) one_table beside.rows)
          ∙ ap (λ t. rows_of t (front ++ later)) (sym same);
      counted = ap length kept ∙ length-append old.emits other.emits ∙ (λ i. stands.counted i + beside.counted i)
          ∙ sym (length-append front later);
    };
  }

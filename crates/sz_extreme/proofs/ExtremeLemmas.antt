-- What an aggregator of extremes stands for after its calls.
use Rattle.std.proofs.Common.{◌≡◌, ◌∙◌, inl, inr, ℕ, ◌+◌, ◌≤◌, ℤ, List, [], ◌∷◌, ◌++◌, map, take, length, refl, sym, ap, subst, arith}
use Rattle.std.specs.List.{take-map}
use Rattle.std.proofs.lemmas.Int.{ints}
use Rattle.std.proofs.lemmas.List.{length-append, map-append, take_all}
use Rattle.std.proofs.lemmas.List.Sorted.{length_permutation}
use Rattle.sz_types.specs.Tables.{Declaration}
use Rattle.sz_types.specs.declared.table.TableKind.{TableKind}
use Rattle.sz_types.specs.declared.table.TableKind.TheVariants.{Maximum, Minimum}
use Rattle.sz_tabs.specs.Data.{Weighted}
use Rattle.sz_tabs.specs.Aggregating.{Gains, Joins}
use Rattle.sz_tabs.specs.Rows.{weighted_row, rows_by, rows_of}
use Rattle.sz_tabs.specs.Sorting.{sorted}
use Rattle.sz_tabs.proofs.ForCallers.{rows_decide, rows_join, sorted_is_permutation}
use Rattle.sz_extreme.specs.Data.{Extremes, rows_of_extremes}
use Rattle.sz_extreme.specs.Ranks.{turned, Ranked, by_rank, emit_of, HoldsLeast}
use Rattle.sz_extreme.specs.Kept.{IsExtreme}
use Rattle.sz_extreme.proofs.RankLemmas.{rank_total, greatest_in_order, least_in_order}

abbrev declaration_of : Extremes → Declaration
declaration_of e = e.table

abbrev count_of : Extremes → ℕ
count_of e = e.count

take_mapped : {X Y : Type 0} (f : X → Y) (n : ℕ) (xs : List X) → take n (map f xs) ≡ map f (take n xs)
take_mapped f n xs = take-map f n xs

-- the rows of emits by their ranks
pub rows_by_rank : (kind : TableKind) (limit : ℕ) (rs : List Ranked) → IsExtreme kind
    → rows_by kind limit (map (emit_of kind) rs)
    ≡ map weighted_row (map (emit_of kind) (take limit (sorted by_rank rs)))
rows_by_rank kind limit rs (inl is) =
    subst (λ k. rows_by k limit (map (emit_of k) rs)
    ≡ map weighted_row (map (emit_of k) (take limit (sorted by_rank rs)))) (sym is)
    (ap (λ l. map weighted_row (take limit l)) (greatest_in_order rs)
    ∙ ap (map weighted_row) (take_mapped (emit_of Maximum) limit (sorted by_rank rs)))
rows_by_rank kind limit rs (inr is) =
    subst (λ k. rows_by k limit (map (emit_of k) rs)
    ≡ map weighted_row (map (emit_of k) (take limit (sorted by_rank rs)))) (sym is)
    (ap (λ l. map weighted_row (take limit l)) (least_in_order rs)
    ∙ ap (map weighted_row) (take_mapped (emit_of Minimum) limit (sorted by_rank rs)))

-- the rows are the same where the least are
rows_alike : (table : Declaration) (all kept : List Ranked) → IsExtreme table.kind → HoldsLeast table.limit all kept
    → rows_of table (map (emit_of table.kind) kept) ≡ rows_of table (map (emit_of table.kind) all)
rows_alike table all kept kind least =
    rows_by_rank table.kind table.limit kept kind ∙ ap (λ l. map weighted_row (map (emit_of table.kind) l)) least
    ∙ sym (rows_by_rank table.kind table.limit all kind)

-- no more than the limit are all shown
pub rows_shown : (table : Declaration) (rs : List Ranked) → IsExtreme table.kind → length rs ≤ table.limit
    → map weighted_row (map (emit_of table.kind) (sorted by_rank rs)) ≡ rows_of table (map (emit_of table.kind) rs)
rows_shown table rs kind few =
    ap (λ l. map weighted_row (map (emit_of table.kind) l))
    (sym (take_all table.limit (sorted by_rank rs)
    (omega (arith, few, length_permutation rs (sorted by_rank rs) (sorted_is_permutation rank_total rs)))))
    ∙ sym (rows_by_rank table.kind table.limit rs kind)

-- the weight that a fitting emit has, by its rank
pub weight_again : (kind : TableKind) (n : ℤ) → turned kind (turned kind n) ≡ n
weight_again Maximum n = omega (arith, ints)
weight_again _ n = refl

module _ (old new : Extremes) (same : new.table ≡ old.table) where
  pub extreme_gains : (emit : Weighted) → new.count ≡ old.count + 1
      → rows_of old.table new.kept ≡ rows_of old.table (old.kept ++ emit ∷ [])
      → Gains declaration_of count_of rows_of_extremes old new emit
  extreme_gains emit counted kept = record {
    same_table = same;
    one_more = counted;
    appended = λ emits stands. record {
      rows =
          ap (λ t. rows_of t new.kept) same ∙ kept ∙ rows_decide old.table old.kept emits (emit ∷ []) stands.rows
          ∙ ap (λ t. rows_of t (emits ++ emit ∷ [])) (sym same);
      counted = counted ∙ ap (λ n. n + 1) stands.counted ∙ sym (length-append emits (emit ∷ []));
    };
  }

  pub extreme_joins : (other : Extremes) → other.table ≡ old.table → new.count ≡ old.count + other.count
      → rows_of old.table new.kept ≡ rows_of old.table (old.kept ++ other.kept)
      → Joins declaration_of count_of rows_of_extremes old other new
  extreme_joins other one_table counted kept = record {
    same_table = same;
    both_counts = counted;
    joined = λ front after stands beside. record {
      rows =
          ap (λ t. rows_of t new.kept) same ∙ kept
          ∙ rows_join old.table old.kept front other.kept after stands.rows
          (subst (λ t. rows_of t other.kept ≡ rows_of t after) one_table beside.rows)
          ∙ ap (λ t. rows_of t (front ++ after)) (sym same);
      counted = counted ∙ (λ i. stands.counted i + beside.counted i) ∙ sym (length-append front after);
    };
  }

-- what is kept after an emit, and after a merge
pub kept_more : (table : Declaration) (old new : List Ranked) (r : Ranked) → IsExtreme table.kind
    → HoldsLeast table.limit (old ++ r ∷ []) new → rows_of table (map (emit_of table.kind) new)
    ≡ rows_of table (map (emit_of table.kind) old ++ emit_of table.kind r ∷ [])
kept_more table old new r kind least =
    rows_alike table (old ++ r ∷ []) new kind least ∙ ap (rows_of table) (map-append (emit_of table.kind) old (r ∷ []))

pub kept_both : (table : Declaration) (old others new : List Ranked) → IsExtreme table.kind
    → HoldsLeast table.limit (old ++ others) new → rows_of table (map (emit_of table.kind) new)
    ≡ rows_of table (map (emit_of table.kind) old ++ map (emit_of table.kind) others)
kept_both table old others new kind least =
    rows_alike table (old ++ others) new kind least ∙ ap (rows_of table) (map-append (emit_of table.kind) old others)

-- the same of what the type's models see: mine is the old one, and yours the other
pub extreme_gained : (mine old : Extremes) → mine ≡ old → (new : List Weighted) (room : ℕ) (emit : Weighted)
    → rows_of mine.table new ≡ rows_of mine.table (mine.kept ++ emit ∷ [])
    → Gains declaration_of count_of rows_of_extremes old
    (record { table = mine.table; count = mine.count + 1; kept = new; room = room }) emit
extreme_gained mine old is new room emit kept =
    extreme_gains old (record { table = mine.table; count = mine.count + 1; kept = new; room = room })
    (ap declaration_of is) emit (ap (λ e. e.count + 1) is)
    (sym (ap (λ e. rows_of e.table new) is) ∙ kept ∙ ap (λ e. rows_of e.table (e.kept ++ emit ∷ [])) is)

pub extreme_joined : (mine yours old other : Extremes) → mine ≡ old → yours ≡ other → (new : List Weighted) (room : ℕ)
    → other.table ≡ old.table → rows_of mine.table new ≡ rows_of mine.table (mine.kept ++ yours.kept)
    → Joins declaration_of count_of rows_of_extremes old other
    (record { table = mine.table; count = mine.count + yours.count; kept = new; room = room })
extreme_joined mine yours old other is your_is new room same kept =
    extreme_joins old (record { table = mine.table; count = mine.count + yours.count; kept = new; room = room })
    (ap declaration_of is) other same (λ i. (is i).count + (your_is i).count)
    (sym (ap (λ e. rows_of e.table new) is) ∙ kept ∙ (λ i. rows_of (is i).table ((is i).kept ++ (your_is i).kept)))

-- The first key, and the keys in value order.
use Rattle.std.proofs.Common.{option_map, slice_get}
use Rattle.std.proofs.Common.{◌≡◌, ◌∙◌, Bool, false, cond, Some, List, [], ◌∷◌, map, refl, sym, ap, Ordering, IsSorted, IsPermutation, is_lt}
use Rattle.std.specs.Cmp.{on_total, IsStrictWeakOrder}
use Rattle.std.specs.List.{IsDistinct, AllByRecursion}
use Rattle.std.proofs.lemmas.List.MinMax.{ranks_by}
use Rattle.std.proofs.lemmas.List.Elements.{All-from_recursion, recursion_from_All}
use Rattle.std.proofs.lemmas.List.Sorted.{IsPermutation-map, IsPermutation-trans, All-permutation}
use Rattle.std.specs.Option.{option_map_or}
use Rattle.std.specs.Map.{keys_of, lookup, set_value}
use Rattle.indexmap.specs.IndexMap.{set_value_at}
use Rattle.std.proofs.lemmas.Map.Keys.{IsDistinct-head, IsDistinct-tail}
use Rattle.sz_value.specs.Data.{Datum}
use Rattle.sz_tabs.specs.Rows.{compare_indexes}
use Rattle.sz_tabs.specs.Sorting.{sorted}
use Rattle.sz_tabs.proofs.ForCallers.{stable_sort_is_sorted, sorted_mapped, sorted_in_any_order}
use Rattle.sz_total.specs.Aggregates.{shown_of}
use Rattle.sz_total.specs.Tables.{Indexed}
use Rattle.sz_total.specs.Entries.{Entries, SortsAll, same_indexes, indexed, entry_rows, rows_in_order}
use Rattle.sz_total.specs.declared.aggregate.Aggregate.{Aggregate}
use Rattle.sz_total.proofs.TablesLemmas.{indexes_total, indexes_tie}
use Rattle.sz_total.proofs.ListLemmas.{same_laws, distinct_apart}

-- an entry shows what stands under its index list
abbrev HasItsRows : Entries → List Datum × Aggregate → Type 0
HasItsRows entries e = entry_rows e ≡ indexed entries e.0

-- an index list in front has no rows under others
rows_later : (key : List Datum) (a : Aggregate) (entries es : Entries)
    → AllByRecursion (λ l. same_indexes key l ≡ false) (keys_of es)
    → AllByRecursion (HasItsRows entries) es → AllByRecursion (HasItsRows ((key, a) ∷ entries)) es
rows_later key a entries [] apart have = tt
rows_later key a entries (e ∷ es) apart have =
    let other = same_laws.symm e.0 key ∙ apart.0 in
    let under : Bool → Indexed = λ b. record {
      indexes = e.0;
      rows = option_map_or shown_of (cond b (Some a) (lookup (same_indexes e.0) entries)) [];
    } in
    (have.0 ∙ ap under (sym other), rows_later key a entries es apart.1 have.1)

-- what stands under each index list is what its aggregator shows, where no two index lists are the same
have_their_rows : (entries : Entries) → IsDistinct same_indexes (keys_of entries)
    → AllByRecursion (HasItsRows entries) entries
have_their_rows [] apart = tt
have_their_rows (h ∷ hs) apart =
    let under : Bool → Indexed = λ b.
    record { indexes = h.0; rows = option_map_or shown_of (cond b (Some h.1) (lookup (same_indexes h.0) hs)) [] } in (
      ap under (sym (same_laws.refl h.0)),
      rows_later h.0 h.1 hs hs (IsDistinct-head same_indexes h.0 (keys_of hs) apart)
          (have_their_rows hs (IsDistinct-tail same_indexes h.0 (keys_of hs) apart)),
    )

rows_of_keys : (entries es : Entries) → AllByRecursion (HasItsRows entries) es
    → map entry_rows es ≡ map (indexed entries) (keys_of es)
rows_of_keys entries [] have = refl
rows_of_keys entries (e ∷ es) have = λ i. have.0 i ∷ rows_of_keys entries es have.1 i

-- how entries compare by their index lists
abbrev pub entries_order : List Datum × Aggregate → List Datum × Aggregate → Ordering
entries_order e f = compare_indexes e.0 f.0

-- whether the index list of the one is less
abbrev pub entries_less : List Datum × Aggregate → List Datum × Aggregate → Bool
entries_less e f = is_lt (entries_order e f)

pub entries_ordered : IsStrictWeakOrder entries_less
entries_ordered = ranks_by indexes_total (λ (e : List Datum × Aggregate). e.0)

-- what a sort leaves: only one order of the index lists is sorted, since no two are the same
pub entries_sorted : (entries new : Entries) → IsDistinct same_indexes (keys_of entries) → IsPermutation entries new
    → IsSorted entries_order new → map entry_rows new ≡ rows_in_order entries
entries_sorted entries new apart moved in_order =
    rows_of_keys entries new
    (recursion_from_All has new
    (All-permutation has entries new moved (All-from_recursion has entries (have_their_rows entries apart))))
    ∙ ap (map (indexed entries)) (keys_are ∙ sym (distinct_apart (keys_of entries) apart))
  where
    has : List Datum × Aggregate → Type 0
    has = HasItsRows entries

    key : List Datum × Aggregate → List Datum
    key e = e.0

    keys_are : keys_of new ≡ sorted compare_indexes (keys_of entries)
    keys_are =
        ap keys_of (stable_sort_is_sorted (on_total key indexes_total) new new in_order (λ v. refl))
        ∙ sym (sorted_mapped compare_indexes key new) ∙ sym (sorted_in_any_order indexes_total indexes_tie
        (keys_of entries) (keys_of new) (IsPermutation-map key entries new moved))

-- what a sort leaves of entries in whatever order they stood
pub sorts_all : (old new : Entries) → IsPermutation old new → IsSorted entries_order new → SortsAll old new
sorts_all old new moved in_order = record {
  same = moved;
  rows = λ all apart before. entries_sorted all new apart (IsPermutation-trans all old new before moved) in_order;
}

-- the first key, where it is empty
pub first_key : (es : Entries) (key : List Datum) (a : Aggregate) → Some (key, a) ≡ slice_get es 0 → key ≡ []
    → slice_get (keys_of es) 0 ≡ Some []
first_key [] key a there none = absurd (cc)
first_key (e ∷ es) key a there none = sym (ap (option_map (λ (p : List Datum × Aggregate). p.0)) there) ∙ ap Some none

-- what is known of the first aggregator, where its index list is empty
pub record IsFirst (es : Entries) (a : Aggregate) : Type 0 where
  pub found : lookup (same_indexes []) es ≡ Some a
  pub written : (new : Aggregate) → set_value_at es 0 new ≡ set_value (same_indexes []) es new
  pub same : set_value_at es 0 a ≡ es

some_same : {T : Type 0} (x y : T) → Some x ≡ Some y → x ≡ y
some_same x y e = cc

pub is_first : (es : Entries) (key : List Datum) (a : Aggregate) → slice_get es 0 ≡ Some (key, a)
    → slice_get (keys_of es) 0 ≡ Some [] → IsFirst es a
is_first [] key a there none = absurd (cc)
is_first (e ∷ es) key a there none = record {
  found =
      ap (λ k. cond (same_indexes [] k) (Some e.1) (lookup (same_indexes []) es)) (some_same _ _ none)
      ∙ ap (option_map (λ (p : List Datum × Aggregate). p.1)) there;
  written = λ new.
      (λ i. (some_same _ _ none i, new) ∷ es)
      ∙ sym (ap (λ k. cond (same_indexes [] k) ((k, new) ∷ es) ((k, e.1) ∷ set_value (same_indexes []) es new))
      (some_same _ _ none));
  same = ap (λ b. (e.0, b) ∷ es) (sym (ap (λ (p : List Datum × Aggregate). p.1) (some_same _ _ there)));
}

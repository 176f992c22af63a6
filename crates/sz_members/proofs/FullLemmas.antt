-- The distinct values of what is kept are the values that are kept, and a set that is full stays full.
use Rattle.std.proofs.Common.{◌≡◌, ◌∙◌, inl, inr, ℕ, zero, suc, ◌≤◌, ◌<◌, Bool, true, false, cond, true≢false, List, [], ◌∷◌, ◌++◌, map, length, replicate}
use Rattle.std.proofs.Common.{refl, sym, ap, subst, arith}
use Rattle.std.proofs.Common.{Ordering, Less, Equal, Greater, is_eq, is_gt}
use Rattle.std.specs.Prelude.{nat_lt}
use Rattle.std.specs.List.{AllByRecursion, IsDistinct}
use Rattle.std.specs.Map.{keys_of}
use Rattle.std.specs.Ordering.{eq_by_cmp, match_ordering}
use Rattle.std.specs.BTreeSet.{insert_key}
use Rattle.std.proofs.Common.{ltb-true, lt-ltb}
use Rattle.std.proofs.lemmas.Map.Keys.{IsDistinct-head, IsDistinct-tail}
use Rattle.std.proofs.lemmas.List.{map-append, length-map}
use Rattle.sz_types.specs.Tables.{Declaration}
use Rattle.sz_types.specs.declared.table.TableKind.{TableKind}
use Rattle.sz_types.specs.declared.table.TableKind.TheVariants.{Sum, Maximum, Minimum, Set, Collection}
use Rattle.sz_value.specs.Data.{Datum}
use Rattle.sz_value.specs.Order.{compare}
use Rattle.sz_value.specs.Total.{compare_total, compare_ties, compare_itself}
use Rattle.sz_value.specs.Seen.{seen}
use Rattle.sz_value.specs.declared.value.Value.{Value}
use Rattle.sz_tabs.specs.Data.{Weighted}
use Rattle.sz_tabs.specs.Rows.{values_of, value_row, overflow_row, set_rows, rows_by, rows_of}
use Rattle.sz_tabs.specs.Sorting.{inserted, sorted, distinct}
use Rattle.sz_tabs.proofs.ForCallers.{all_entered, distinct_of_both, distinct_of_either, sorted_is_permutation}
use Rattle.std.proofs.lemmas.List.Sorted.{length_permutation}
use Rattle.sz_members.specs.Data.{times}
use Rattle.sz_members.specs.Repeats.{value_eq, seen_repeated, emits_tallied, AllCame, is_full, full_by}
use Rattle.sz_members.specs.Kept.{IsOfMembers}
use Rattle.sz_members.specs.Showing.{shown_of}

module _ {X : Type 0} (cmp : X → X → Ordering) where
  -- an element is entered once
  pub entered_again : (ys : List X) (x : X) → cmp x x ≡ Equal
      → insert_key cmp (insert_key cmp ys x) x ≡ insert_key cmp ys x
  entered_again [] x same = ap (λ found. match_ordering found (x ∷ x ∷ []) (x ∷ []) (x ∷ insert_key cmp [] x)) same
  entered_again (y ∷ ys) x same = by_found (cmp x y) refl (entered_again ys x same)
    where
      again : (found : Ordering) → cmp x y ≡ found
          → insert_key cmp (y ∷ ys) x ≡ match_ordering found (x ∷ y ∷ ys) (y ∷ ys) (y ∷ insert_key cmp ys x)
      again found is = ap (λ o. match_ordering o (x ∷ y ∷ ys) (y ∷ ys) (y ∷ insert_key cmp ys x)) is

      by_found : (found : Ordering) → cmp x y ≡ found → insert_key cmp (insert_key cmp ys x) x ≡ insert_key cmp ys x
          → insert_key cmp (insert_key cmp (y ∷ ys) x) x ≡ insert_key cmp (y ∷ ys) x
      by_found Less is after =
          ap (λ l. insert_key cmp l x) (again Less is)
          ∙ ap (λ o. match_ordering o (x ∷ x ∷ y ∷ ys) (x ∷ y ∷ ys) (x ∷ insert_key cmp (y ∷ ys) x)) same
          ∙ sym (again Less is)
      by_found Equal is after = ap (λ l. insert_key cmp l x) (again Equal is)
      by_found Greater is after =
          let rest = insert_key cmp ys x in
          ap (λ l. insert_key cmp l x) (again Greater is)
          ∙ ap (λ o. match_ordering o (x ∷ y ∷ rest) (y ∷ rest) (y ∷ insert_key cmp rest x)) is
          ∙ ap (λ l. y ∷ l) after ∙ sym (again Greater is)

  -- the same element entered more than once
  pub times_entered : (n : ℕ) (ys : List X) (x : X) → cmp x x ≡ Equal
      → all_entered cmp (replicate (suc n) x) ys ≡ insert_key cmp ys x
  times_entered zero ys x same = refl
  times_entered (suc n) ys x same = ap (λ l. insert_key cmp l x) (times_entered n ys x same) ∙ entered_again ys x same

  -- x ties with none of these
  abbrev pub IsApart : X → List X → Type 0
  IsApart x ys = AllByRecursion (λ y. eq_by_cmp cmp x y ≡ false) ys

  apart_inserted : (x y : X) (ys : List X) → eq_by_cmp cmp x y ≡ false → IsApart x ys → IsApart x (inserted cmp y ys)
  apart_inserted x y [] first rest = (first, tt)
  apart_inserted x y (z ∷ zs) first rest = by_test (is_gt (cmp y z)) (apart_inserted x y zs first rest.1)
    where
      by_test : (b : Bool) → IsApart x (inserted cmp y zs) → IsApart x (cond b (z ∷ inserted cmp y zs) (y ∷ z ∷ zs))
      by_test true after = (rest.0, after)
      by_test false after = (first, rest)

  pub apart_sorted : (x : X) (ys : List X) → IsApart x ys → IsApart x (sorted cmp ys)
  apart_sorted x [] apart = tt
  apart_sorted x (y ∷ ys) apart = apart_inserted x y (sorted cmp ys) apart.0 (apart_sorted x ys apart.1)

  -- what ties with nothing is entered as it is inserted
  pub entered_apart : (x : X) (ys : List X) → IsApart x ys → insert_key cmp ys x ≡ inserted cmp x ys
  entered_apart x [] apart = refl
  entered_apart x (y ∷ ys) apart = by_found (cmp x y) apart.0 (entered_apart x ys apart.1)
    where
      by_found : (found : Ordering) → is_eq found ≡ false → insert_key cmp ys x ≡ inserted cmp x ys
          → match_ordering found (x ∷ y ∷ ys) (y ∷ ys) (y ∷ insert_key cmp ys x)
          ≡ cond (is_gt found) (y ∷ inserted cmp x ys) (x ∷ y ∷ ys)
      by_found Less is after = refl
      by_found Equal is after = absurd (true≢false is)
      by_found Greater is after = ap (λ l. y ∷ l) after

  longer_entered : (ys : List X) (x : X) → length ys ≤ length (insert_key cmp ys x)
  longer_entered [] x = omega arith
  longer_entered (y ∷ ys) x = by_found (cmp x y) (longer_entered ys x)
    where
      by_found : (found : Ordering) → length ys ≤ length (insert_key cmp ys x)
          → length (y ∷ ys) ≤ length (match_ordering found (x ∷ y ∷ ys) (y ∷ ys) (y ∷ insert_key cmp ys x))
      by_found Less after = omega arith
      by_found Equal after = omega arith
      by_found Greater after = omega arith

  pub longer_with_all : (xs ys : List X) → length ys ≤ length (all_entered cmp xs ys)
  longer_with_all [] ys = omega arith
  longer_with_all (x ∷ xs) ys = omega (arith, longer_with_all xs ys, longer_entered (all_entered cmp xs ys) x)

-- the values that are kept
abbrev pub data_tallied : List (Value × ℕ) → List Datum
data_tallied es = map seen (keys_of es)

values_of_times : (n : ℕ) (d : Datum) → values_of (times n d) ≡ replicate n d
values_of_times zero d = refl
values_of_times (suc n) d = ap (λ l. d ∷ l) (values_of_times n d)

pub values_of_both : (vs ws : List Weighted) → values_of (vs ++ ws) ≡ values_of vs ++ values_of ws
values_of_both vs ws = map-append (λ (w : Weighted). w.value) vs ws

apart_data : (v : Value) (ks : List Value) → AllByRecursion (λ k. value_eq v k ≡ false) ks
    → IsApart compare (seen v) (map seen ks)
apart_data v [] all = tt
apart_data v (k ∷ ks) all = (all.0, apart_data v ks all.1)

-- no value is kept twice, so the distinct values are those that are kept
pub distinct_tallied : (es : List (Value × ℕ)) → IsDistinct value_eq (keys_of es) → AllCame es
    → distinct compare (values_of (emits_tallied es)) ≡ sorted compare (data_tallied es)
distinct_tallied [] unique came = refl
distinct_tallied (e ∷ es) unique came =
    by_times e.1 came.0 (distinct_tallied es (IsDistinct-tail value_eq e.0 (keys_of es) unique) came.1)
    (apart_sorted compare (seen e.0) (data_tallied es)
    (apart_data e.0 (keys_of es) (IsDistinct-head value_eq e.0 (keys_of es) unique)))
  where
    by_times : (n : ℕ) → 0 < n → distinct compare (values_of (emits_tallied es)) ≡ sorted compare (data_tallied es)
        → IsApart compare (seen e.0) (sorted compare (data_tallied es))
        → distinct compare (values_of (times n (seen e.0) ++ emits_tallied es))
        ≡ inserted compare (seen e.0) (sorted compare (data_tallied es))
    by_times zero some after apart = absurd (omega (arith, some))
    by_times (suc n) some after apart =
        ap (distinct compare)
        (values_of_both (times (suc n) (seen e.0)) (emits_tallied es)
        ∙ ap (λ l. l ++ values_of (emits_tallied es)) (values_of_times (suc n) (seen e.0)))
        ∙ distinct_of_both compare_total compare_ties (replicate (suc n) (seen e.0)) (values_of (emits_tallied es))
        ∙ times_entered compare n (distinct compare (values_of (emits_tallied es))) (seen e.0)
        (compare_itself (seen e.0) (seen e.0) refl) ∙ ap (λ l. insert_key compare l (seen e.0)) after
        ∙ entered_apart compare (seen e.0) (sorted compare (data_tallied es)) apart

length_sorted : (es : List (Value × ℕ)) → length (sorted compare (data_tallied es)) ≡ length es
length_sorted es =
    length_permutation (data_tallied es) (sorted compare (data_tallied es))
    (sorted_is_permutation compare_total (data_tallied es)) ∙ length-map (keys_of es) seen ∙ length-map es (λ e. e.0)

-- a set that is full stays full, whatever else comes
set_stays_full : (limit : ℕ) (es : List (Value × ℕ)) (more : List Weighted) → IsDistinct value_eq (keys_of es)
    → AllCame es → nat_lt limit (length es) ≡ true
    → set_rows limit (distinct compare (values_of (emits_tallied es ++ more))) ≡ overflow_row ∷ []
set_stays_full limit es more unique came full =
    let all = all_entered compare (values_of more) (distinct compare (values_of (emits_tallied es))) in
    let above = ltb-true limit (length es) full in
    let few : length (distinct compare (values_of (emits_tallied es))) ≡ length es =
    ap length (distinct_tallied es unique came) ∙ length_sorted es in
    let still = lt-ltb limit (length all)
    (omega (
      arith,
      above,
      few,
      longer_with_all compare (values_of more) (distinct compare (values_of (emits_tallied es))),
    )) in
    ap (set_rows limit) (ap (distinct compare) (values_of_both (emits_tallied es) more)
    ∙ distinct_of_either compare_total compare_ties (values_of (emits_tallied es)) (values_of more))
    ∙ ap (λ b. cond b (overflow_row ∷ []) (map value_row all)) still

full_rows : (kind : TableKind) (limit : ℕ) (es : List (Value × ℕ)) (more : List Weighted)
    → IsDistinct value_eq (keys_of es) → AllCame es
    → full_by kind limit (length es) ≡ true → rows_by kind limit (emits_tallied es ++ more) ≡ overflow_row ∷ []
full_rows Set limit es more unique came full = set_stays_full limit es more unique came full
full_rows Sum limit es more unique came full = absurd (true≢false (sym full))
full_rows Maximum limit es more unique came full = absurd (true≢false (sym full))
full_rows Minimum limit es more unique came full = absurd (true≢false (sym full))
full_rows Collection limit es more unique came full = absurd (true≢false (sym full))

-- the row of a full set, whatever else comes
pub full_shows : (table : Declaration) (es : List (Value × ℕ)) (more : List Weighted)
    → IsDistinct value_eq (keys_of es) → AllCame es
    → is_full table (length es) ≡ true → rows_of table (emits_tallied es ++ more) ≡ overflow_row ∷ []
full_shows table es more unique came full = full_rows table.kind table.limit es more unique came full

-- what is shown of a set are the values that are kept, and of a collection all values that came
shown_set : (es : List (Value × ℕ)) → shown_of Set (map seen_repeated es) ≡ data_tallied es
shown_set [] = refl
shown_set (e ∷ es) = ap (λ l. seen e.0 ∷ l) (shown_set es)

shown_collection : (es : List (Value × ℕ)) → shown_of Collection (map seen_repeated es) ≡ values_of (emits_tallied es)
shown_collection [] = refl
shown_collection (e ∷ es) =
    (λ i. sym (values_of_times e.1 (seen e.0)) i ++ shown_collection es i)
    ∙ sym (values_of_both (times e.1 (seen e.0)) (emits_tallied es))

set_shows : (limit : ℕ) (es : List (Value × ℕ)) → IsDistinct value_eq (keys_of es) → AllCame es
    → nat_lt limit (length es) ≡ false
    → map value_row (sorted compare (shown_of Set (map seen_repeated es))) ≡ rows_by Set limit (emits_tallied es)
set_shows limit es unique came few =
    let values : distinct compare (values_of (emits_tallied es)) ≡ sorted compare (data_tallied es) =
    distinct_tallied es unique came in
    let long : nat_lt limit (length (sorted compare (data_tallied es))) ≡ false =
    ap (nat_lt limit) (length_sorted es) ∙ few in
    ap (λ l. map value_row (sorted compare l)) (shown_set es)
    ∙ sym (ap (set_rows limit) values
    ∙ ap (λ b. cond b (overflow_row ∷ []) (map value_row (sorted compare (data_tallied es)))) long)

-- the rows of what is kept, where it isn't a full set
pub tally_shows : (table : Declaration) (es : List (Value × ℕ)) → IsDistinct value_eq (keys_of es) → AllCame es
    → IsOfMembers table.kind
    → is_full table (length es) ≡ false
    → map value_row (sorted compare (shown_of table.kind (map seen_repeated es))) ≡ rows_of table (emits_tallied es)
tally_shows table es unique came (inl is) few =
    subst (λ kind. full_by kind table.limit (length es) ≡ false
    → map value_row (sorted compare (shown_of kind (map seen_repeated es)))
    ≡ rows_by kind table.limit (emits_tallied es)) (sym is) (λ few. set_shows table.limit es unique came few) few
tally_shows table es unique came (inr is) few =
    subst (λ kind. map value_row (sorted compare (shown_of kind (map seen_repeated es)))
    ≡ rows_by kind table.limit (emits_tallied es))
    (sym is) (ap (λ l. map value_row (sorted compare l)) (shown_collection es))

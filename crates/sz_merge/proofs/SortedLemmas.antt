-- Lists in order that are put together from parts in order.
use Rattle.std.proofs.Common.{◌≡◌, ◌∙◌, ℕ, zero, suc, ◌≤◌, false, cond, List, [], ◌∷◌, ◌++◌, length, take, refl}
use Rattle.std.proofs.Common.{sym, ap, arith, append_assoc}
use Rattle.std.proofs.Common.{Ordering, Less, Equal, Greater, is_gt, is_eq}
use Rattle.std.specs.Cmp.{IsTotalOrder}
use Rattle.std.specs.List.{AllByRecursion, dedup, dedup_from}
use Rattle.std.specs.List.Sorted.{IsStrictlySortedBy}
use Rattle.std.specs.Ordering.{eq_by_cmp, match_ordering, ordering_reverse}
use Rattle.std.specs.BTreeSet.{insert_key}
use Rattle.std.proofs.lemmas.List.Sorted.{IsPermutation-sym, IsPermutation-append, IsPermutation-append_left, IsPermutation-append_right}
use Rattle.sz_tabs.specs.Sorting.{sorted, distinct}
use Rattle.sz_tabs.proofs.ForCallers.{Ascends, is_sorted, sorted_ascends, stable_sort_is_sorted, sorted_is_permutation, sorted_in_any_order}
use Rattle.sz_tabs.proofs.ForCallers.{distinct_rises, all_entered}
use Rattle.sz_tabs.proofs.ForCallers.{distinct_of_either, first_of_either}
use Rattle.sz_merge.proofs.EitherLemmas.{sorted_either}

module _ {X : Type 0} {cmp : X → X → Ordering} (total : IsTotalOrder cmp) where
  all_taken : (P : X → Type 0) (n : ℕ) (xs : List X) → AllByRecursion P xs → AllByRecursion P (take n xs)
  all_taken P zero xs h = tt
  all_taken P (suc n) [] h = tt
  all_taken P (suc n) (x ∷ xs) h = (h.0, all_taken P n xs h.1)

  taken_ascends : (n : ℕ) (xs : List X) → Ascends total xs → Ascends total (take n xs)
  taken_ascends zero xs up = tt
  taken_ascends (suc n) [] up = tt
  taken_ascends (suc n) (x ∷ xs) up = (all_taken (λ y. is_gt (cmp x y) ≡ false) n xs up.0, taken_ascends n xs up.1)

  -- what is in order stays so when it is sorted
  sorted_again : (xs : List X) → Ascends total xs → sorted cmp xs ≡ xs
  sorted_again xs up = sym (stable_sort_is_sorted total xs xs (is_sorted total xs up) (λ v. refl))

  taken_again : (n : ℕ) (xs : List X) → take n (take n xs) ≡ take n xs
  taken_again zero xs = refl
  taken_again (suc n) [] = refl
  taken_again (suc n) (x ∷ xs) = ap (λ l. x ∷ l) (taken_again n xs)

  first_again : (n : ℕ) (xs : List X) → take n (sorted cmp (take n (sorted cmp xs))) ≡ take n (sorted cmp xs)
  first_again n xs =
      ap (take n) (sorted_again (take n (sorted cmp xs)) (taken_ascends n (sorted cmp xs) (sorted_ascends total xs)))
      ∙ taken_again n (sorted cmp xs)

  strict_ascends : (xs : List X) → IsStrictlySortedBy cmp xs → Ascends total xs
  unfolding IsStrictlySortedBy
  strict_ascends [] up = tt
  strict_ascends (x ∷ xs) up = (not_above xs up.0, strict_ascends xs up.1)
    where
      not_above : (ys : List X) → AllByRecursion (λ y. cmp x y ≡ Less) ys
          → AllByRecursion (λ y. is_gt (cmp x y) ≡ false) ys
      not_above [] h = tt
      not_above (y ∷ ys) h = (ap is_gt h.0, not_above ys h.1)

  kept_from : (k : X) (ys : List X) → IsStrictlySortedBy cmp (k ∷ ys) → dedup_from (eq_by_cmp cmp) k ys ≡ k ∷ ys
  unfolding IsStrictlySortedBy
  kept_from k [] up = refl
  kept_from k (y ∷ ys) up =
      let apart : cmp y k ≡ Greater = total.antisymm y k ∙ ap ordering_reverse up.0.0 in
      ap (λ b. cond b (dedup_from (eq_by_cmp cmp) k ys) (k ∷ dedup_from (eq_by_cmp cmp) y ys)) (ap is_eq apart)
      ∙ ap (λ l. k ∷ l) (kept_from y ys up.1)

  kept : (xs : List X) → IsStrictlySortedBy cmp xs → dedup (eq_by_cmp cmp) xs ≡ xs
  kept [] up = refl
  kept (x ∷ xs) up = kept_from x xs up

-- how many there are after an entry
module _ {X : Type 0} (cmp : X → X → Ordering) where
  longer : (ys : List X) (x : X) → length ys ≤ length (insert_key cmp ys x)
  longer [] x = omega arith
  longer (y ∷ ys) x = by_found (cmp x y) (longer ys x)
    where
      by_found : (found : Ordering) → length ys ≤ length (insert_key cmp ys x)
          → length (y ∷ ys) ≤ length (match_ordering found (x ∷ y ∷ ys) (y ∷ ys) (y ∷ insert_key cmp ys x))
      by_found Less later = omega arith
      by_found Equal later = omega arith
      by_found Greater later = omega (arith, later)

  pub all_longer : (xs ys : List X) → length ys ≤ length (all_entered cmp xs ys)
  all_longer [] ys = omega arith
  all_longer (x ∷ xs) ys = omega (arith, all_longer xs ys, longer (all_entered cmp xs ys) x)

module _ {X : Type 0} {cmp : X → X → Ordering} (total : IsTotalOrder cmp)
    (same : (x y : X) → cmp x y ≡ Equal → x ≡ y) where
  -- the first of all three
  pub first_grouped : (n : ℕ) (xs ys zs : List X)
      → take n (sorted cmp (take n (sorted cmp (xs ++ ys)) ++ zs))
      ≡ take n (sorted cmp (xs ++ take n (sorted cmp (ys ++ zs))))
  first_grouped n xs ys zs =
      let front = take n (sorted cmp (xs ++ ys)) in
      let back = take n (sorted cmp (ys ++ zs)) in
      first_of_either total same n front (xs ++ ys) zs (first_again total n (xs ++ ys))
      ∙ ap (λ l. take n (sorted cmp l)) (append_assoc xs ys zs) ∙ ap (take n) (sorted_either total same xs (ys ++ zs))
      ∙ sym (first_of_either total same n back (ys ++ zs) xs (first_again total n (ys ++ zs)))
      ∙ ap (take n) (sorted_either total same back xs)

  pub sorted_grouped : (xs ys zs : List X)
      → sorted cmp (sorted cmp (xs ++ ys) ++ zs) ≡ sorted cmp (xs ++ sorted cmp (ys ++ zs))
  sorted_grouped xs ys zs =
      let front = sorted_is_permutation total (xs ++ ys) in
      let back = sorted_is_permutation total (ys ++ zs) in
      sorted_in_any_order total same (sorted cmp (xs ++ ys) ++ zs) ((xs ++ ys) ++ zs)
      (IsPermutation-append_left zs (sorted cmp (xs ++ ys)) (xs ++ ys)
      (IsPermutation-sym (xs ++ ys) (sorted cmp (xs ++ ys)) front))
      ∙ ap (sorted cmp) (append_assoc xs ys zs)
      ∙ sorted_in_any_order total same (xs ++ (ys ++ zs)) (xs ++ sorted cmp (ys ++ zs))
      (IsPermutation-append_right xs (ys ++ zs) (sorted cmp (ys ++ zs)) back)

  distinct_again : (xs : List X) → distinct cmp (distinct cmp xs) ≡ distinct cmp xs
  distinct_again xs =
      let up = distinct_rises total same xs in
      ap (dedup (eq_by_cmp cmp)) (sorted_again total (distinct cmp xs) (strict_ascends total (distinct cmp xs) up))
      ∙ kept total (distinct cmp xs) up

  pub distinct_further : (xs ys : List X) → distinct cmp (distinct cmp xs ++ ys) ≡ distinct cmp (xs ++ ys)
  distinct_further xs ys =
      distinct_of_either total same (distinct cmp xs) ys ∙ ap (all_entered cmp ys) (distinct_again xs)
      ∙ sym (distinct_of_either total same xs ys)

  -- what was put in order on either side before
  pub first_of_firsts : (n : ℕ) (xs ys : List X)
      → take n (sorted cmp (take n (sorted cmp xs) ++ take n (sorted cmp ys))) ≡ take n (sorted cmp (xs ++ ys))
  first_of_firsts n xs ys =
      let back = take n (sorted cmp ys) in
      first_of_either total same n (take n (sorted cmp xs)) xs back (first_again total n xs)
      ∙ ap (take n) (sorted_either total same xs back) ∙ first_of_either total same n back ys xs
      (first_again total n ys) ∙ ap (take n) (sorted_either total same ys xs)

  pub sorted_of_sorted : (xs ys : List X) → sorted cmp (sorted cmp xs ++ sorted cmp ys) ≡ sorted cmp (xs ++ ys)
  sorted_of_sorted xs ys =
      sorted_in_any_order total same (sorted cmp xs ++ sorted cmp ys) (xs ++ ys)
      (IsPermutation-append (sorted cmp xs) xs (sorted cmp ys) ys
      (IsPermutation-sym xs (sorted cmp xs) (sorted_is_permutation total xs))
      (IsPermutation-sym ys (sorted cmp ys) (sorted_is_permutation total ys)))

  pub distinct_either : (xs ys : List X) → distinct cmp (xs ++ ys) ≡ distinct cmp (ys ++ xs)
  distinct_either xs ys = ap (dedup (eq_by_cmp cmp)) (sorted_either total same xs ys)

  pub distinct_of_distinct : (xs ys : List X) → distinct cmp (xs ++ distinct cmp ys) ≡ distinct cmp (xs ++ ys)
  distinct_of_distinct xs ys = distinct_either xs (distinct cmp ys) ∙ distinct_further ys xs ∙ distinct_either ys xs

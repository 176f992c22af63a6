-- The order of ranks, and that the greatest of one more than n can be left out of the first n.
use Rattle.std.proofs.Common.{◌≡◌, ◌∙◌, ℕ, ◌+◌, ◌≤◌, ℤ, negsuc, ◌-ℤ◌, true, false, cond, true≢false, Option, Some, None, pos, List, [], ◌∷◌, ◌++◌, map, take, length, refl, sym, ap, subst, arith}
use Rattle.std.proofs.Common.{Ordering, Less, Equal, Greater, is_lt, is_gt}
use Rattle.std.specs.List.{AllByRecursion}
use Rattle.std.specs.Ordering.{int_cmp, ordering_then, ordering_reverse, on}
use Rattle.std.specs.Cmp.{IsTotalOrder, on_total, int_cmp_is}
use Rattle.std.proofs.lemmas.Int.{ints}
use Rattle.std.proofs.lemmas.Cmp.{alike_right, int_ranked}
use Rattle.std.proofs.lemmas.List.{take-append-le}
use Rattle.std.proofs.lemmas.List.Sorted.{length_permutation}
use Rattle.sz_types.specs.declared.table.TableKind.TheVariants.{Maximum, Minimum}
use Rattle.sz_value.specs.Order.{compare}
use Rattle.sz_tabs.specs.Sorting.{inserted, sorted}
use Rattle.sz_tabs.specs.Rows.{least_first, greatest_first}
use Rattle.sz_tabs.proofs.ForCallers.{Ascends, sorted_ascends, sorted_is_permutation, sorted_mapped, least_total, least_ties}
use Rattle.sz_tabs.proofs.SortingLemmas.{all_inserted}
use Rattle.sz_extreme.specs.Ranks.{Ranked, by_rank, emit_of}

pub rank_total : IsTotalOrder by_rank
rank_total = on_total (emit_of Minimum) least_total

abbrev weight_or_zero : Option ℤ → ℤ
weight_or_zero (Some n) = n
weight_or_zero None = pos 0

pub rank_ties : (r s : Ranked) → by_rank r s ≡ Equal → r ≡ s
rank_ties r s tied =
    let same = least_ties (emit_of Minimum r) (emit_of Minimum s) tied in
    λ i. (weight_or_zero (same i).weight, (same i).value)

-- numbers turned round compare the other way round
turned_found : (m n : ℤ) (o : Ordering) → o ≡ int_cmp m n → o ≡ int_cmp (negsuc 0 -ℤ n) (negsuc 0 -ℤ m)
turned_found m n Less is =
    int_cmp_is (negsuc 0 -ℤ n) (negsuc 0 -ℤ m) Less (let less = int_ranked m n Less is in omega (arith, ints, less))
turned_found m n Equal is =
    int_cmp_is (negsuc 0 -ℤ n) (negsuc 0 -ℤ m) Equal (λ i. negsuc 0 -ℤ sym (int_ranked m n Equal is) i)
turned_found m n Greater is = int_cmp_is (negsuc 0 -ℤ n) (negsuc 0 -ℤ m) Greater
    (let more = int_ranked m n Greater is in omega (arith, ints, more))

turned_compare : (m n : ℤ) → int_cmp (negsuc 0 -ℤ n) (negsuc 0 -ℤ m) ≡ int_cmp m n
turned_compare m n = sym (turned_found m n (int_cmp m n) refl)

greatest_by_rank : on (emit_of Maximum) greatest_first ≡ by_rank
greatest_by_rank = λ i r s. ordering_then (turned_compare r.0 s.0 i) (compare r.1 s.1)

-- emits in order are those of the ranks in order
pub greatest_in_order : (rs : List Ranked)
    → sorted greatest_first (map (emit_of Maximum) rs) ≡ map (emit_of Maximum) (sorted by_rank rs)
greatest_in_order rs = sorted_mapped greatest_first (emit_of Maximum) rs
    ∙ ap (λ cmp. map (emit_of Maximum) (sorted cmp rs)) greatest_by_rank

pub least_in_order : (rs : List Ranked)
    → sorted least_first (map (emit_of Minimum) rs) ≡ map (emit_of Minimum) (sorted by_rank rs)
least_in_order rs = sorted_mapped least_first (emit_of Minimum) rs

module _ {X : Type 0} {cmp : X → X → Ordering} (total : IsTotalOrder cmp)
    (same : (x y : X) → cmp x y ≡ Equal → x ≡ y) where
  -- the element isn't less than any of these
  abbrev pub IsWorst : X → List X → Type 0
  IsWorst worst xs = AllByRecursion (λ y. is_lt (cmp worst y) ≡ false) xs

  all_sorted : (P : X → Type 0) (xs : List X) → AllByRecursion P xs → AllByRecursion P (sorted cmp xs)
  all_sorted P [] all = tt
  all_sorted P (x ∷ xs) all = all_inserted total P x (sorted cmp xs) all.0 (all_sorted P xs all.1)

  -- an element that is no more than the first of ascending ones stays in front
  in_front : (x : X) (ys : List X) → AllByRecursion (λ y. is_gt (cmp x y) ≡ false) ys → inserted cmp x ys ≡ x ∷ ys
  in_front x [] all = refl
  in_front x (y ∷ ys) all = ap (λ b. cond b (y ∷ inserted cmp x ys) (x ∷ y ∷ ys)) all.0

  -- the worst goes after all
  goes_last : (worst : X) (ys : List X) → IsWorst worst ys → Ascends total ys → inserted cmp worst ys ≡ ys ++ worst ∷ []
  goes_last worst [] all up = refl
  goes_last worst (y ∷ ys) all up = by_found (cmp worst y) refl (goes_last worst ys all.1 up.1)
    where
      by_found : (found : Ordering) → cmp worst y ≡ found → inserted cmp worst ys ≡ ys ++ worst ∷ []
          → inserted cmp worst (y ∷ ys) ≡ (y ∷ ys) ++ worst ∷ []
      by_found Less is after = absurd (true≢false (sym (ap is_lt is) ∙ all.0))
      by_found Greater is after = ap (λ o. cond (is_gt o) (y ∷ inserted cmp worst ys) (worst ∷ y ∷ ys)) is
          ∙ ap (λ l. y ∷ l) after
      by_found Equal is after =
          let twin = same worst y is in
          let front =
          in_front worst ys (subst (λ z. AllByRecursion (λ v. is_gt (cmp z v) ≡ false) ys) (sym twin) up.0) in
          ap (λ o. cond (is_gt o) (y ∷ inserted cmp worst ys) (worst ∷ y ∷ ys)) is ∙ (λ i. twin i ∷ sym twin i ∷ ys)
          ∙ ap (λ l. y ∷ l) (sym front ∙ after)

  -- the first n of one more than n are those without the worst
  pub worst_left_out : (n : ℕ) (xs : List X) (worst : X) → n ≤ length xs → IsWorst worst xs
      → take n (sorted cmp (worst ∷ xs)) ≡ take n (sorted cmp xs)
  worst_left_out n xs worst long all =
      ap (take n) (goes_last worst (sorted cmp xs) (all_sorted (λ y. is_lt (cmp worst y) ≡ false) xs all)
      (sorted_ascends total xs)) ∙ take-append-le n (sorted cmp xs) (worst ∷ [])
      (omega (arith, long, length_permutation xs (sorted cmp xs) (sorted_is_permutation total xs)))

  -- what isn't less than the worst isn't less than any
  pub worse_than_worst : (x worst : X) (ys : List X) → is_lt (cmp x worst) ≡ false → IsWorst worst ys → IsWorst x ys
  worse_than_worst x worst [] h all = tt
  worse_than_worst x worst (y ∷ ys) h all =
      (by_found (cmp x y) (cmp worst y) refl refl all.0, worse_than_worst x worst ys h all.1)
    where
      by_found : (a b : Ordering) → cmp x y ≡ a → cmp worst y ≡ b → is_lt (cmp worst y) ≡ false
          → is_lt (cmp x y) ≡ false
      by_found Equal b is other low = ap is_lt is
      by_found Greater b is other low = ap is_lt is
      by_found Less Less is other low = absurd (true≢false (sym (ap is_lt other) ∙ low))
      by_found Less Equal is other low =
          absurd (true≢false (sym (ap is_lt (alike_right total worst y x other ∙ is)) ∙ h))
      by_found Less Greater is other low =
          let back : cmp y worst ≡ Less = total.antisymm y worst ∙ ap ordering_reverse other in
          absurd (true≢false (sym (ap is_lt (total.trans x y worst is back)) ∙ h))

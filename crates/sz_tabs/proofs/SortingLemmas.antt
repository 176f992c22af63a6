-- Sorting: that it sorts, that the order of the elements can't be seen in it, and that a stable sort gives it.
use Rattle.std.proofs.Common.{◌≡◌, ◌∙◌, zero, suc, Bool, true, false, not, ◌&&◌, cond, true≢false, List, [], ◌∷◌, map, filter, refl, sym, ap, subst, arith, add-one}
use Rattle.std.proofs.Common.{Ordering, Less, Equal, Greater, is_lt, is_gt, is_eq, IsPermutation, IsSorted}
use Rattle.std.specs.List.{AllByRecursion, Contains}
use Rattle.std.specs.List.Sorted.{IsStable, IsStrictlySortedBy}
use Rattle.std.specs.Cmp.{IsTotalOrder}
use Rattle.std.specs.Ordering.{ordering_reverse, on, eq_by_cmp}
use Rattle.std.proofs.lemmas.Bool.{cond_both}
use Rattle.std.proofs.lemmas.Cmp.{upto, tied_itself, alike_right, eq_by_cmp_equiv}
use Rattle.std.proofs.lemmas.List.Elements.{filter_agree}
use Rattle.std.proofs.lemmas.List.Sorted.{IsPermutation-refl, IsPermutation-cons, IsPermutation-trans, IsPermutation-sym, IsPermutation-middle, Contains-permutation}
use Rattle.std.proofs.lemmas.List.Kept.{IsStrictlySortedBy-dedup, Contains-dedup, Contains-from_dedup}
use Rattle.sz_tabs.specs.Sorting.{inserted, sorted, distinct}
use Rattle.sz_tabs.proofs.PermutationLemmas.{in_any_order}

module _ {X : Type 0} {cmp : X → X → Ordering} (total : IsTotalOrder cmp) where
  -- the first is at most the second
  abbrev AtMost : X → X → Type 0
  AtMost x y = is_gt (cmp x y) ≡ false

  -- each element is at most each one after it
  abbrev pub Ascends : List X → Type 0
  Ascends [] = Unit {0}
  Ascends (x ∷ xs) = AllByRecursion (AtMost x) xs × Ascends xs

  -- how the two compare the other way round
  turned_round : (x y : X) (found : Ordering) → cmp x y ≡ found → cmp y x ≡ ordering_reverse found
  turned_round x y found is = total.antisymm y x ∙ ap ordering_reverse is

  greater : (found : Ordering) → is_gt found ≡ true → found ≡ Greater
  greater Less h = absurd (true≢false (sym h))
  greater Equal h = absurd (true≢false (sym h))
  greater Greater h = refl

  -- what is above another isn't below it
  above_is_not_below : (x y : X) → is_gt (cmp x y) ≡ true → AtMost y x
  above_is_not_below x y above = ap is_gt (turned_round x y Greater (greater (cmp x y) above))

  not_less : (x y : X) → AtMost x y → is_lt (cmp y x) ≡ false
  not_less x y h = by_found (cmp x y) refl h
    where
      by_found : (found : Ordering) → cmp x y ≡ found → is_gt found ≡ false → is_lt (cmp y x) ≡ false
      by_found Less is h = ap is_lt (turned_round x y Less is)
      by_found Equal is h = ap is_lt (turned_round x y Equal is)
      by_found Greater is h = absurd (true≢false h)

  at_most_from_not_less : (x y : X) → is_lt (cmp y x) ≡ false → AtMost x y
  at_most_from_not_less x y h = by_found (cmp y x) refl h
    where
      by_found : (found : Ordering) → cmp y x ≡ found → is_lt found ≡ false → is_gt (cmp x y) ≡ false
      by_found Less is h = absurd (true≢false h)
      by_found Equal is h = ap is_gt (turned_round y x Equal is)
      by_found Greater is h = ap is_gt (turned_round y x Greater is)

  all_weaker : (P Q : X → Type 0) → ((x : X) → P x → Q x) → (xs : List X) → AllByRecursion P xs → AllByRecursion Q xs
  all_weaker P Q f [] all = tt
  all_weaker P Q f (x ∷ xs) all = (f x all.0, all_weaker P Q f xs all.1)

  pub all_inserted : (P : X → Type 0) (x : X) (ys : List X) → P x → AllByRecursion P ys
      → AllByRecursion P (inserted cmp x ys)
  all_inserted P x [] h all = (h, tt)
  all_inserted P x (y ∷ ys) h all =
      cond_both (is_gt (cmp x y)) (y ∷ inserted cmp x ys) (x ∷ y ∷ ys) (AllByRecursion P)
      (λ above. (all.0, all_inserted P x ys h all.1)) (λ below. (h, all))

  inserted_ascends : (x : X) (ys : List X) → Ascends ys → Ascends (inserted cmp x ys)
  inserted_ascends x [] up = (tt, tt)
  inserted_ascends x (y ∷ ys) up =
      cond_both (is_gt (cmp x y)) (y ∷ inserted cmp x ys) (x ∷ y ∷ ys) Ascends
      (λ above. (all_inserted (AtMost y) x ys (above_is_not_below x y above) up.0, inserted_ascends x ys up.1))
      (λ below. ((below, all_weaker (AtMost y) (AtMost x) (λ z. upto total x y z below) ys up.0), up))

  pub sorted_ascends : (xs : List X) → Ascends (sorted cmp xs)
  sorted_ascends [] = tt
  sorted_ascends (x ∷ xs) = inserted_ascends x (sorted cmp xs) (sorted_ascends xs)

  -- by places, each element isn't less than the one before it
  pub is_sorted : (xs : List X) → Ascends xs → IsSorted cmp xs
  is_sorted [] up k d low within = absurd (omega arith)
  is_sorted (x ∷ []) up k d low within = absurd (omega arith)
  is_sorted (x ∷ y ∷ ys) up zero d low within = not_less x y up.0.0
  is_sorted (x ∷ y ∷ ys) up (suc k) d low within =
      rw add-one (rw add-one at (is_sorted (y ∷ ys) up.1 k d (omega arith) (omega arith)))

  at_most_all : (x : X) (ys : List X) → IsSorted cmp (x ∷ ys) → Ascends ys → AllByRecursion (AtMost x) ys
  at_most_all x [] in_order up = tt
  at_most_all x (y ∷ ys) in_order up =
      let first = at_most_from_not_less x y (in_order 0 x (omega arith) (omega arith)) in
      (first, all_weaker (AtMost y) (AtMost x) (λ z. upto total x y z first) ys up.0)

  pub ascends : (xs : List X) → IsSorted cmp xs → Ascends xs
  ascends [] in_order = tt
  ascends (x ∷ xs) in_order =
      let later : IsSorted cmp xs =
      λ k d low within. rw add-one (rw add-one at (in_order (suc k) d (omega arith) (omega arith))) in
      let up = ascends xs later in
      (at_most_all x xs in_order up, up)

  -- no two elements of which the first is above the other pass the test
  abbrev Apart : (X → Bool) → Type 0
  Apart t = (x y : X) → is_gt (cmp x y) ≡ true → t x ≡ true → t y ≡ true → ⊥

  filter_of_inserted : (t : X → Bool) → Apart t → (x : X) (ys : List X)
      → filter t (inserted cmp x ys) ≡ filter t (x ∷ ys)
  filter_of_inserted t apart x [] = refl
  filter_of_inserted t apart x (y ∷ ys) = by_test (is_gt (cmp x y)) refl (filter_of_inserted t apart x ys)
    where
      either_order : is_gt (cmp x y) ≡ true → (p q : Bool) → t x ≡ p → t y ≡ q → (kept : List X)
          → cond q (y ∷ cond p (x ∷ kept) kept) (cond p (x ∷ kept) kept)
          ≡ cond p (x ∷ cond q (y ∷ kept) kept) (cond q (y ∷ kept) kept)
      either_order above true true a b kept = absurd (apart x y above a b)
      either_order above true false a b kept = refl
      either_order above false true a b kept = refl
      either_order above false false a b kept = refl

      by_test : (above : Bool) → is_gt (cmp x y) ≡ above → filter t (inserted cmp x ys) ≡ filter t (x ∷ ys)
          → filter t (cond above (y ∷ inserted cmp x ys) (x ∷ y ∷ ys)) ≡ filter t (x ∷ y ∷ ys)
      by_test true above later = ap (λ kept. cond (t y) (y ∷ kept) kept) later
          ∙ either_order above (t x) (t y) refl refl (filter t ys)
      by_test false above later = refl

  filter_of_sorted : (t : X → Bool) → Apart t → (xs : List X) → filter t (sorted cmp xs) ≡ filter t xs
  filter_of_sorted t apart [] = refl
  filter_of_sorted t apart (x ∷ xs) =
      filter_of_inserted t apart x (sorted cmp xs)
      ∙ ap (λ kept. cond (t x) (x ∷ kept) kept) (filter_of_sorted t apart xs)

  equal : (found : Ordering) → is_eq found ≡ true → found ≡ Equal
  equal Less h = absurd (true≢false (sym h))
  equal Equal h = refl
  equal Greater h = absurd (true≢false (sym h))

  -- of two elements that tie with a third none is above the other
  ties_are_apart : (v : X) → Apart (eq_by_cmp cmp v)
  ties_are_apart v x y above a b =
      let level = sym (total.congr v x y (equal (cmp v x) a)) ∙ equal (cmp v y) b in
      absurd (true≢false (sym above ∙ ap is_gt level))

  less_than_after : (x y z : X) → cmp x y ≡ Less → AtMost y z → cmp x z ≡ Less
  less_than_after x y z less h = by_found (cmp y z) refl h
    where
      by_found : (found : Ordering) → cmp y z ≡ found → is_gt found ≡ false → cmp x z ≡ Less
      by_found Less is h = total.trans x y z less is
      by_found Equal is h = sym (alike_right total y z x is) ∙ less
      by_found Greater is h = absurd (true≢false h)

  none_tie : (v : X) (ys : List X) → AllByRecursion (λ y. cmp v y ≡ Less) ys → filter (eq_by_cmp cmp v) ys ≡ []
  none_tie v [] less = refl
  none_tie v (y ∷ ys) less = rw less.0 (none_tie v ys less.1)

  -- what is below the head of an ascending list ties with none of it
  below_all : (v y : X) (ys : List X) → cmp v y ≡ Less → AllByRecursion (AtMost y) ys
      → filter (eq_by_cmp cmp v) (y ∷ ys) ≡ []
  below_all v y ys less up =
      none_tie v (y ∷ ys) (less, all_weaker (AtMost y) (λ z. cmp v z ≡ Less) (λ z. less_than_after v y z less) ys up)

  first_ties : (v y : X) (ys : List X) → cmp v y ≡ Equal
      → filter (eq_by_cmp cmp v) (y ∷ ys) ≡ y ∷ filter (eq_by_cmp cmp v) ys
  first_ties v y ys tie = rw tie

  abbrev TieAlike : List X → List X → Type 0
  TieAlike ys zs = (v : X) → filter (eq_by_cmp cmp v) ys ≡ filter (eq_by_cmp cmp v) zs

  same_head : (y z : X) (ys zs : List X) → Ascends (y ∷ ys) → Ascends (z ∷ zs) → TieAlike (y ∷ ys) (z ∷ zs) → y ≡ z
  same_head y z ys zs left right alike = by_found (cmp y z) refl
    where
      by_found : (found : Ordering) → cmp y z ≡ found → y ≡ z
      by_found Less is =
          let kept = sym (first_ties y y ys (tied_itself total y)) ∙ alike y ∙ below_all y z zs is right.0 in cc
      by_found Equal is =
          let kept = sym (first_ties y y ys (tied_itself total y)) ∙ alike y ∙ first_ties y z zs is in cc
      by_found Greater is =
          let kept = sym (first_ties z z zs (tied_itself total z)) ∙ sym (alike z)
          ∙ below_all z y ys (turned_round y z Greater is) left.0 in cc

  tails_alike : (y : X) (ys zs : List X) → TieAlike (y ∷ ys) (y ∷ zs) → TieAlike ys zs
  tails_alike y ys zs alike v = by_test (eq_by_cmp cmp v y) (alike v)
    where
      by_test : (b : Bool) → cond b (y ∷ filter (eq_by_cmp cmp v) ys) (filter (eq_by_cmp cmp v) ys)
          ≡ cond b (y ∷ filter (eq_by_cmp cmp v) zs) (filter (eq_by_cmp cmp v) zs)
          → filter (eq_by_cmp cmp v) ys ≡ filter (eq_by_cmp cmp v) zs
      by_test true e = cc
      by_test false e = e

  -- two ascending lists in which elements that tie stand alike are one list
  pub one_order : (ys zs : List X) → Ascends ys → Ascends zs → TieAlike ys zs → ys ≡ zs
  one_order [] [] left right alike = refl
  one_order [] (z ∷ zs) left right alike = let kept = alike z ∙ first_ties z z zs (tied_itself total z) in cc
  one_order (y ∷ ys) [] left right alike = let kept = sym (alike y) ∙ first_ties y y ys (tied_itself total y) in cc
  one_order (y ∷ ys) (z ∷ zs) left right alike =
      let same = same_head y z ys zs left right alike in
      let later = tails_alike y ys zs (subst (λ w. TieAlike (y ∷ ys) (w ∷ zs)) (sym same) alike) in
      λ i. same i ∷ one_order ys zs left.1 right.1 later i

  neither_less : (x y : X) → (not (is_lt (cmp x y)) && not (is_lt (cmp y x))) ≡ eq_by_cmp cmp x y
  neither_less x y = by_found (cmp x y) refl
    where
      by_found : (found : Ordering) → cmp x y ≡ found → (not (is_lt found) && not (is_lt (cmp y x))) ≡ is_eq found
      by_found Less is = refl
      by_found Equal is = ap (λ o. not (is_lt o)) (turned_round x y Equal is)
      by_found Greater is = ap (λ o. not (is_lt o)) (turned_round x y Greater is)

  -- what a stable sort leaves
  pub stable_sort_is_sorted : (xs ys : List X) → IsSorted cmp ys → IsStable cmp xs ys → ys ≡ sorted cmp xs
  stable_sort_is_sorted xs ys in_order stable =
      one_order ys (sorted cmp xs) (ascends ys in_order) (sorted_ascends xs) (λ v.
      sym (filter_agree _ (eq_by_cmp cmp v) (neither_less v) ys) ∙ stable v
      ∙ filter_agree _ (eq_by_cmp cmp v) (neither_less v) xs
      ∙ sym (filter_of_sorted (eq_by_cmp cmp v) (ties_are_apart v) xs))

  inserted_is_permutation : (x : X) (ys : List X) → IsPermutation (x ∷ ys) (inserted cmp x ys)
  inserted_is_permutation x [] = IsPermutation-refl (x ∷ [])
  inserted_is_permutation x (y ∷ ys) =
      cond_both (is_gt (cmp x y)) (y ∷ inserted cmp x ys) (x ∷ y ∷ ys) (IsPermutation (x ∷ y ∷ ys))
      (λ above. IsPermutation-trans _ _ _ (IsPermutation-sym _ _ (IsPermutation-middle (y ∷ []) x ys))
      (IsPermutation-cons y _ _ (inserted_is_permutation x ys)))
      (λ below. IsPermutation-refl (x ∷ y ∷ ys))

  pub sorted_is_permutation : (xs : List X) → IsPermutation xs (sorted cmp xs)
  sorted_is_permutation [] = IsPermutation-refl []
  sorted_is_permutation (x ∷ xs) = IsPermutation-trans _ _ _ (IsPermutation-cons x _ _ (sorted_is_permutation xs))
      (inserted_is_permutation x (sorted cmp xs))

  -- an order in which only an element itself ties with it
  module _ (same : (x y : X) → cmp x y ≡ Equal → x ≡ y) where
    front : (x y : X) (zs : List X)
        → cond (is_gt (cmp x y)) (y ∷ x ∷ zs) (x ∷ y ∷ zs) ≡ cond (is_gt (cmp y x)) (x ∷ y ∷ zs) (y ∷ x ∷ zs)
    front x y zs = by_found (cmp x y) refl
      where
        by_found : (found : Ordering) → cmp x y ≡ found
            → cond (is_gt found) (y ∷ x ∷ zs) (x ∷ y ∷ zs) ≡ cond (is_gt (cmp y x)) (x ∷ y ∷ zs) (y ∷ x ∷ zs)
        by_found Less is = rw (turned_round x y Less is)
        by_found Equal is = rw (turned_round x y Equal is) (λ i. same x y is i ∷ sym (same x y is) i ∷ zs)
        by_found Greater is = rw (turned_round x y Greater is)

    above_both : (x y z : X) → is_gt (cmp x z) ≡ true → AtMost y z → is_gt (cmp x y) ≡ true
    above_both x y z above below = ap is_gt (turned_round y x Less (by_found (cmp y z) refl below))
      where
        less : cmp z x ≡ Less
        less = turned_round x z Greater (greater (cmp x z) above)

        by_found : (found : Ordering) → cmp y z ≡ found → is_gt found ≡ false → cmp y x ≡ Less
        by_found Less is h = total.trans y z x is less
        by_found Equal is h = total.congr y z x is ∙ less
        by_found Greater is h = absurd (true≢false h)

    -- of two insertions either may be made first
    inserted_in_turn : (x y : X) (zs : List X) → inserted cmp x (inserted cmp y zs) ≡ inserted cmp y (inserted cmp x zs)
    inserted_in_turn x y [] = front x y []
    inserted_in_turn x y (z ∷ zs) = by_tests (is_gt (cmp x z)) (is_gt (cmp y z)) refl refl (inserted_in_turn x y zs)
      where
        by_tests : (p q : Bool) → is_gt (cmp x z) ≡ p → is_gt (cmp y z) ≡ q
            → inserted cmp x (inserted cmp y zs) ≡ inserted cmp y (inserted cmp x zs)
            → inserted cmp x (inserted cmp y (z ∷ zs)) ≡ inserted cmp y (inserted cmp x (z ∷ zs))
        by_tests true true p q later = simp (p, q) (ap (λ l. z ∷ l) later)
        by_tests true false p q later = simp (p, q, above_both x y z p q)
        by_tests false true p q later = simp (p, q, above_both y x z q p)
        by_tests false false p q later = simp (p, q) (front x y (z ∷ zs))

    -- the order of the elements can't be seen
    pub sorted_in_any_order : (xs ys : List X) → IsPermutation xs ys → sorted cmp xs ≡ sorted cmp ys
    sorted_in_any_order =
        in_any_order (λ xs ys. sorted cmp xs ≡ sorted cmp ys) (λ xs. refl) (λ x xs ys alike. ap (inserted cmp x) alike)
        (λ x y xs. inserted_in_turn x y (sorted cmp xs)) (λ xs ys zs first second. first ∙ second)

    -- the distinct elements rise
    pub distinct_rises : (xs : List X) → IsStrictlySortedBy cmp (distinct cmp xs)
    distinct_rises xs =
        IsStrictlySortedBy-dedup total (λ x y. refl) (sorted cmp xs) (is_sorted (sorted cmp xs) (sorted_ascends xs))

    -- each element is among them
    pub distinct_has : (xs : List X) (x : X) → Contains xs x → Contains (distinct cmp xs) x
    distinct_has xs x there =
        Contains-dedup (eq_by_cmp_equiv total) (λ a b tied. same a b (equal (cmp a b) tied)) (sorted cmp xs) x
        (Contains-permutation xs (sorted cmp xs) x (sorted_is_permutation xs) there)

    -- and no other
    pub distinct_has_no_other : (xs : List X) (x : X) → Contains (distinct cmp xs) x → Contains xs x
    distinct_has_no_other xs x there =
        Contains-permutation (sorted cmp xs) xs x (IsPermutation-sym _ _ (sorted_is_permutation xs))
        (Contains-from_dedup (eq_by_cmp cmp) (sorted cmp xs) x there)

-- an insertion through a function
inserted_mapped : {X Y : Type 0} (cmp : Y → Y → Ordering) (f : X → Y) (x : X) (ys : List X)
    → inserted cmp (f x) (map f ys) ≡ map f (inserted (on f cmp) x ys)
inserted_mapped cmp f x [] = refl
inserted_mapped cmp f x (y ∷ ys) = by_test (is_gt (cmp (f x) (f y))) (inserted_mapped cmp f x ys)
  where
    by_test : (b : Bool) → inserted cmp (f x) (map f ys) ≡ map f (inserted (on f cmp) x ys)
        → cond b (f y ∷ inserted cmp (f x) (map f ys)) (f x ∷ f y ∷ map f ys)
        ≡ map f (cond b (y ∷ inserted (on f cmp) x ys) (x ∷ y ∷ ys))
    by_test true later = ap (λ l. f y ∷ l) later
    by_test false later = refl

-- what is sorted by what a function gives, is sorted by the function
pub sorted_mapped : {X Y : Type 0} (cmp : Y → Y → Ordering) (f : X → Y) (xs : List X)
    → sorted cmp (map f xs) ≡ map f (sorted (on f cmp) xs)
sorted_mapped cmp f [] = refl
sorted_mapped cmp f (x ∷ xs) = ap (inserted cmp (f x)) (sorted_mapped cmp f xs)
    ∙ inserted_mapped cmp f x (sorted (on f cmp) xs)

-- The numbers of constants and types: each is that of the first that is the same, and it stays when others come after.
use Rattle.std.proofs.Common.{◌≡◌, ◌∙◌, ℕ, zero, suc, ◌+◌, List, [], ◌∷◌, ◌++◌, map, length, Bool, true, false, not, ◌||◌, cond, Some, refl, sym, ap, subst, arith, if◌then◌else◌, append-nil, drop, ◌≤◌, ◌↔◌, IsTrue}
use Rattle.std.specs.Prelude.{slice_get}
use Rattle.std.specs.List.{position_or_len, list_any}
use Rattle.std.specs.Ordering.{is_eq}
use Rattle.std.proofs.lemmas.List.{map-append, drop_all}
use Rattle.sz_types.proofs.ForCallers.{alike_is_equality}
use Rattle.sz_types.specs.Data.{Shape}
use Rattle.sz_types.specs.Same.{alike}
use Rattle.sz_value.specs.Data.{Datum}
use Rattle.sz_value.specs.Order.{compare}
use Rattle.std.specs.Cmp.{Equal-is}
use Rattle.sz_core.specs.Sound.{BeginsWith}
use Rattle.sz_value.specs.Total.{compare_ties, compare_itself}
use Rattle.sz_gen_rules.specs.Tables.{first_passing}

-- ---- what the set of constants answers

number_step : (here : Bool) (n m : ℕ) → n ≡ m → cond (not here) (1 + n) 0 ≡ (if here then 0 else suc m)
number_step true n m e = refl
number_step false n m e = let same : 1 + n ≡ suc m = omega (arith, e) in same

module _ {K X : Type 0} (view : K → X) (test : X → Bool) where
  pub number_is : (keys : List K) → position_or_len (λ k. test (view k)) keys ≡ first_passing test (map view keys)
  number_is [] = refl
  number_is (k ∷ keys) = number_step (test (view k)) (position_or_len (λ k. test (view k)) keys)
      (first_passing test (map view keys)) (number_is keys)

  any_is : (keys : List K) → list_any (λ k. test (view k)) keys ≡ list_any test (map view keys)
  any_is [] = refl
  any_is (k ∷ keys) = ap (λ b. test (view k) || b) (any_is keys)

  kept_by : (b : Bool) (keys : List K) (k : K)
      → map view (if b then keys else keys ++ k ∷ []) ≡ (if b then map view keys else map view keys ++ view k ∷ [])
  kept_by true keys k = refl
  kept_by false keys k = map-append view keys (k ∷ [])

  pub kept_is : (keys : List K) (k : K) → map view (if list_any (λ k. test (view k)) keys then keys else keys ++ k ∷ [])
      ≡ (if list_any test (map view keys) then map view keys else map view keys ++ view k ∷ [])
  kept_is keys k = kept_by (list_any (λ k. test (view k)) keys) keys k
      ∙ ap (λ (b : Bool). if b then map view keys else map view keys ++ view k ∷ []) (any_is keys)

-- ---- numbers stay

module _ {X : Type 0} (test : X → Bool) where
  -- what is found keeps its number when others come after
  pub number_stays : (xs ys : List X) (x : X) → slice_get xs (first_passing test xs) ≡ Some x
      → first_passing test (xs ++ ys) ≡ first_passing test xs
  number_stays [] ys x found = absurd cc
  number_stays (z ∷ xs) ys x found = by (test z) (number_stays xs ys x) found
    where
      by : (b : Bool)
          → (slice_get xs (first_passing test xs) ≡ Some x → first_passing test (xs ++ ys) ≡ first_passing test xs)
          → slice_get (z ∷ xs) (if b then 0 else suc (first_passing test xs)) ≡ Some x
          → (if b then 0 else suc (first_passing test (xs ++ ys))) ≡ (if b then 0 else suc (first_passing test xs))
      by true rest h = refl
      by false rest h = ap suc (rest h)

  -- and is found under it
  pub still_there : (xs ys : List X) (x : X) → slice_get xs (first_passing test xs) ≡ Some x
      → slice_get (xs ++ ys) (first_passing test (xs ++ ys)) ≡ Some x
  still_there [] ys x found = absurd cc
  still_there (z ∷ xs) ys x found = by (test z) (still_there xs ys x) found
    where
      by : (b : Bool) → (slice_get xs (first_passing test xs) ≡ Some x
          → slice_get (xs ++ ys) (first_passing test (xs ++ ys)) ≡ Some x)
          → slice_get (z ∷ xs) (if b then 0 else suc (first_passing test xs)) ≡ Some x
          → slice_get (z ∷ (xs ++ ys)) (if b then 0 else suc (first_passing test (xs ++ ys))) ≡ Some x
      by true rest h = h
      by false rest h = rest h

  -- one more, unless it is there
  abbrev pub with_one : List X → X → List X
  with_one xs x = if list_any test xs then xs else xs ++ x ∷ []

  -- it is found then, under the number that it had before, where only it passes the test
  module _ (x : X) (itself : test x ≡ true) (only : (y : X) → test y ≡ true → y ≡ x) where
    -- with b for whether it is there already
    abbrev Found : List X → Bool → Type 0
    Found xs b =
        let all = if b then xs else xs ++ x ∷ [] in
        (first_passing test all ≡ first_passing test xs) × (slice_get all (first_passing test all) ≡ Some x)

    step_by : (z : X) (xs : List X) → ((b : Bool) → list_any test xs ≡ b → Found xs b) → (c : Bool) → test z ≡ c
        → (b : Bool) → (c || list_any test xs) ≡ b → Found (z ∷ xs) b
    step_by z xs rest true t true f =
        let here : first_passing test (z ∷ xs) ≡ 0 =
        ap (λ (c : Bool). if c then 0 else suc (first_passing test xs)) t in
        (refl, ap (λ n. slice_get (z ∷ xs) n) here ∙ ap Some (only z t))
    step_by z xs rest true t false f = absurd cc
    step_by z xs rest false t true f =
        let here : first_passing test (z ∷ xs) ≡ suc (first_passing test xs) =
        ap (λ (c : Bool). if c then 0 else suc (first_passing test xs)) t in
        (refl, ap (λ n. slice_get (z ∷ xs) n) here ∙ (rest true f).1)
    step_by z xs rest false t false f =
        let ys = xs ++ x ∷ [] in
        let here : first_passing test (z ∷ xs) ≡ suc (first_passing test xs) =
        ap (λ (c : Bool). if c then 0 else suc (first_passing test xs)) t in
        let there : first_passing test (z ∷ ys) ≡ suc (first_passing test ys) =
        ap (λ (c : Bool). if c then 0 else suc (first_passing test ys)) t in
        (there ∙ ap suc (rest false f).0 ∙ sym here, ap (λ n. slice_get (z ∷ ys) n) there ∙ (rest false f).1)

    there_by : (xs : List X) (b : Bool) → list_any test xs ≡ b → Found xs b
    there_by [] true e = absurd cc
    there_by [] false e =
        let here : (if test x then 0 else 1) ≡ 0 = ap (λ (b : Bool). if b then 0 else 1) itself in
        (here, ap (λ n. slice_get (x ∷ []) n) here)
    there_by (z ∷ xs) b e = step_by z xs (λ c f. there_by xs c f) (test z) refl b e

    pub same_number : (xs : List X) → first_passing test (with_one xs x) ≡ first_passing test xs
    same_number xs = (there_by xs (list_any test xs) refl).0

    pub there : (xs : List X) → slice_get (with_one xs x) (first_passing test (with_one xs x)) ≡ Some x
    there xs = (there_by xs (list_any test xs) refl).1

-- ---- a search from the front

module _ {X : Type 0} (test : X → Bool) where
  -- nothing in front of a place passes the test
  abbrev pub IsFrom : List X → ℕ → Type 0
  IsFrom xs at = first_passing test xs ≡ at + first_passing test (drop at xs)

  rest_is : (xs : List X) (at : ℕ) (x : X) → slice_get xs at ≡ Some x → drop at xs ≡ x ∷ drop (suc at) xs
  rest_is [] at x e = absurd cc
  rest_is (y ∷ xs) zero x e = let same : y ≡ x = cc in ap (λ z. z ∷ xs) same
  rest_is (y ∷ xs) (suc at) x e = rest_is xs at x e

  pub found_here : (xs : List X) (at : ℕ) (x : X) → slice_get xs at ≡ Some x → test x ≡ true → IsFrom xs at
      → at ≡ first_passing test xs
  found_here xs at x e t from =
      let here : first_passing test (drop at xs) ≡ 0 = ap (first_passing test) (rest_is xs at x e)
      ∙ ap (λ (b : Bool). if b then 0 else suc (first_passing test (drop (suc at) xs))) t in
      omega (arith, from, here)

  pub not_here : (xs : List X) (at : ℕ) (x : X) → slice_get xs at ≡ Some x → test x ≡ false → IsFrom xs at
      → IsFrom xs (at + 1)
  not_here xs at x e t from =
      let here : first_passing test (drop at xs) ≡ suc (first_passing test (drop (suc at) xs)) =
      ap (first_passing test) (rest_is xs at x e)
      ∙ ap (λ (b : Bool). if b then 0 else suc (first_passing test (drop (suc at) xs))) t in
      let next : suc at ≡ at + 1 = omega arith in
      let so : IsFrom xs (suc at) = omega (arith, from, here) in
      subst (IsFrom xs) next so

  pub starts : (xs : List X) → IsFrom xs 0
  starts xs = omega arith

  pub at_end : (xs : List X) (at n : ℕ) → n ≡ length xs → n ≤ at → at ≤ n → IsFrom xs at
      → length xs ≡ first_passing test xs
  at_end xs at n is over less from =
      let more : length xs ≤ at = omega (arith, is, over) in
      let here : first_passing test (drop at xs) ≡ 0 = ap (first_passing test) (drop_all at xs more) in
      omega (arith, from, here, more, less, is)

-- a truth value that says whether two types are the same
pub says_alike : (b : Bool) (s t : Shape) → (IsTrue b ↔ (s ≡ t)) → b ≡ alike s t
says_alike b s t iff =
    by b (alike s t) (λ h. (alike_is_equality s t).1 (iff.0 h)) (λ h. iff.1 ((alike_is_equality s t).0 h))
  where
    by : (b c : Bool) → (b ≡ true → c ≡ true) → (c ≡ true → b ≡ true) → b ≡ c
    by true c f g = sym (f refl)
    by false true f g = g refl
    by false false f g = refl

-- ---- one more constant or type

-- where a list begins with one that has x, x has the number in it that it had before, and stands there
module _ {X : Type 0} (test : X → Bool) (x : X) (itself : test x ≡ true) (only : (y : X) → test y ≡ true → y ≡ x) where
  pub named_by : (xs ys zs : List X) → ys ≡ with_one test xs x → BeginsWith ys zs
      → (first_passing test zs ≡ first_passing test xs) × (slice_get zs (first_passing test zs) ≡ Some x)
  named_by xs ys zs one begins =
      let found : slice_get ys (first_passing test ys) ≡ Some x =
      subst (λ l. slice_get l (first_passing test l) ≡ Some x) (sym one) (there test x itself only xs) in (
        ap (first_passing test) begins.1 ∙ number_stays test ys begins.0 x found ∙ ap (first_passing test) one
            ∙ same_number test x itself only xs,
        subst (λ l. slice_get l (first_passing test l) ≡ Some x) (sym begins.1) (still_there test ys begins.0 x found),
      )

begins_by : {X : Type 0} (b : Bool) (xs : List X) (x : X) → BeginsWith xs (if b then xs else xs ++ x ∷ [])
begins_by true xs x = ([], sym (append-nil xs))
begins_by false xs x = (x ∷ [], refl)

pub begins_with_one : {X : Type 0} (test : X → Bool) (xs ys : List X) (x : X) → ys ≡ with_one test xs x
    → BeginsWith xs ys
begins_with_one test xs ys x one = subst (BeginsWith xs) (sym one) (begins_by (list_any test xs) xs x)

pub only_itself : (d c : Datum) → is_eq (compare d c) ≡ true → c ≡ d
only_itself d c h = sym (compare_ties d c ((Equal-is (compare d c)).0 h))

pub is_itself : (d : Datum) → is_eq (compare d d) ≡ true
is_itself d = ap is_eq (compare_itself d d refl)

-- where nothing in front of the end passes, nothing does
module _ {X : Type 0} (test : X → Bool) where
  none_by : (b : Bool) (xs : List X) → (first_passing test xs ≡ length xs → list_any test xs ≡ false)
      → (if b then 0 else suc (first_passing test xs)) ≡ suc (length xs) → (b || list_any test xs) ≡ false
  none_by true xs rest e = absurd (omega (arith, e))
  none_by false xs rest e = rest (omega (arith, e))

  none_passes : (xs : List X) → first_passing test xs ≡ length xs → list_any test xs ≡ false
  none_passes [] e = refl
  none_passes (x ∷ xs) e = none_by (test x) xs (none_passes xs) e

  some_by : (b : Bool) (xs : List X) → ((first_passing test xs ≡ length xs → ⊥) → list_any test xs ≡ true)
      → ((if b then 0 else suc (first_passing test xs)) ≡ suc (length xs) → ⊥) → (b || list_any test xs) ≡ true
  some_by true xs rest e = refl
  some_by false xs rest e = rest (λ same. e (ap suc same))

  some_passes : (xs : List X) → (first_passing test xs ≡ length xs → ⊥) → list_any test xs ≡ true
  some_passes [] e = absurd (e refl)
  some_passes (x ∷ xs) e = some_by (test x) xs (some_passes xs) e

  pub added : (xs : List X) (x : X) → first_passing test xs ≡ length xs → xs ++ x ∷ [] ≡ with_one test xs x
  added xs x e = sym (ap (λ (b : Bool). if b then xs else xs ++ x ∷ []) (none_passes xs e))

  pub not_added : (xs : List X) (x : X) → (first_passing test xs ≡ length xs → ⊥) → xs ≡ with_one test xs x
  not_added xs x e = sym (ap (λ (b : Bool). if b then xs else xs ++ x ∷ []) (some_passes xs e))

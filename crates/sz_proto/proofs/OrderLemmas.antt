-- Fields in order of their numbers, and those with one number.
use Rattle.std.proofs.Common.{◌≡◌, ℕ, zero, suc, ◌-◌, ◌<◌, ◌≤◌, List, [], ◌∷◌, length, take, get_or, filter, Bool, true, false, not, ◌&&◌, ◌==◌, cond, ltb, leb, refl, sym, ap, ◌∙◌, arith}
use Rattle.std.specs.List.{slice_range}
use Rattle.std.specs.List.Sorted.{ties, IsStableByKey}
use Rattle.std.specs.declared.cmp.Ordering.TheVariants.{Less, Equal, Greater}
use Rattle.std.specs.Ordering.{is_lt, nat_cmp}
use Rattle.std.proofs.lemmas.Bool.Decides.{nat_tests}
use Rattle.std.proofs.lemmas.Bool.{ltb-true, leb-true, leb-false}
use Rattle.sz_wire.specs.declared.field.WireField.{WireField}
use Rattle.sz_wire.specs.declared.field.WireKind.TheVariants as kinds
use Rattle.sz_proto.specs.Found.{with_number}

-- what passes a test that only the items between two places pass
filtered : {X : Type 0} (p : X → Bool) (xs : List X) (a b : ℕ) → a ≤ b → b ≤ length xs
    → ((k : ℕ) (d : X) → k < a → p (get_or xs k d) ≡ false)
    → ((k : ℕ) (d : X) → a ≤ k → k < b → p (get_or xs k d) ≡ true)
    → ((k : ℕ) (d : X) → b ≤ k → k < length xs → p (get_or xs k d) ≡ false)
    → filter p xs ≡ slice_range xs a b
filtered p [] zero zero le high before here after = refl
filtered p [] a (suc b) le high before here after = absurd (omega (arith, high))
filtered p [] (suc a) zero le high before here after = absurd (omega (arith, le))
filtered p (x ∷ xs) (suc a) zero le high before here after = absurd (omega (arith, le))
filtered p (x ∷ xs) zero zero le high before here after =
    let head : p x ≡ false = after 0 x (omega arith) (omega arith) in
    let rest = filtered p xs 0 0 (omega arith) (omega arith) (λ k d h. absurd (omega (arith, h)))
    (λ k d l h. absurd (omega (arith, h))) (λ k d l h. after (suc k) d (omega arith) (omega (arith, h))) in
    rw head rest
filtered {X} p (x ∷ xs) zero (suc b) le high before here after =
    let head : p x ≡ true = here 0 x (omega arith) (omega arith) in
    let rest = filtered p xs 0 b (omega arith) (omega (arith, high)) (λ k d h. absurd (omega (arith, h)))
    (λ k d l h. here (suc k) d (omega arith) (omega (arith, h)))
    (λ k d l h. after (suc k) d (omega (arith, l)) (omega (arith, h))) in
    let size : suc b - 0 ≡ suc b = omega arith in
    let same : b - 0 ≡ b = omega arith in
    rw (head, size) (ap (λ (ys : List X). x ∷ ys) (rest ∙ ap (λ (n : ℕ). take n xs) same))
filtered p (x ∷ xs) (suc a) (suc b) le high before here after =
    let head : p x ≡ false = before 0 x (omega arith) in
    let rest =
    filtered p xs a b (omega (arith, le)) (omega (arith, high)) (λ k d h. before (suc k) d (omega (arith, h)))
    (λ k d l h. here (suc k) d (omega (arith, l)) (omega (arith, h)))
    (λ k d l h. after (suc k) d (omega (arith, l)) (omega (arith, h))) in
    let size : suc b - suc a ≡ b - a = omega arith in
    rw (head, size) rest

same_number : (m n : ℕ) → ltb m n ≡ false → leb m n ≡ true → (m == n) ≡ true
same_number m n low high = grind (arith, nat_tests)

less_number : (m n : ℕ) → ltb m n ≡ true → (m == n) ≡ false
less_number m n low = grind (arith, nat_tests)

more_number : (m n : ℕ) → leb m n ≡ false → (m == n) ≡ false
more_number m n high = grind (arith, nat_tests)

-- the fields between the first whose number isn't less and the first whose number is more
pub number_found : (fs : List WireField) (n a b : ℕ) → a ≤ b → b ≤ length fs
    → ((k : ℕ) (d : WireField) → k < a → ltb (get_or fs k d).number n ≡ true)
    → ((k : ℕ) (d : WireField) → a ≤ k → k < length fs → ltb (get_or fs k d).number n ≡ false)
    → ((k : ℕ) (d : WireField) → k < b → leb (get_or fs k d).number n ≡ true)
    → ((k : ℕ) (d : WireField) → b ≤ k → k < length fs → leb (get_or fs k d).number n ≡ false)
    → slice_range fs a b ≡ with_number n fs
number_found fs n a b le high low not_low most more = sym (filtered (λ (f : WireField). f.number == n) fs a b le high
    (λ k d h. less_number _ n (low k d h))
    (λ k d l h. same_number _ n (not_low k d l (omega (arith, h, high))) (most k d h))
    (λ k d l h. more_number _ n (more k d l h)))

-- numbers that tie are the same
tie_is : (a b : ℕ) → (not (is_lt (nat_cmp a b)) && not (is_lt (nat_cmp b a))) ≡ (b == a)
tie_is a b = by (ltb a b) (ltb b a) (b == a) (a == b) refl refl refl
  where
    by : (x y z w : Bool) → ltb a b ≡ x → ltb b a ≡ y → (b == a) ≡ z
        → (not (is_lt (cond x Less (cond w Equal Greater))) && not (is_lt (cond y Less (cond z Equal Greater)))) ≡ z
    by true y true w e f g = absurd (grind (arith, nat_tests))
    by true y false w e f g = refl
    by false true true w e f g = absurd (grind (arith, nat_tests))
    by false true false true e f g = refl
    by false true false false e f g = refl
    by false false true true e f g = refl
    by false false true false e f g = refl
    by false false false w e f g = absurd (grind (arith, nat_tests))

-- a stable sort by the number keeps the order of fields with the same one
pub number_stays : (fs gs : List WireField) → IsStableByKey (λ (f : WireField). f.number) nat_cmp fs gs → (n : ℕ)
    → with_number n gs ≡ with_number n fs
number_stays fs gs stable n =
    let at : WireField = record { number = n; kind = kinds.Group; next = 0 } in
    let same : (f : WireField)
    → ties (λ (x y : WireField). is_lt (nat_cmp x.number y.number)) at f ≡ (f.number == n) = λ f. tie_is n f.number in
    sym (λ i. filter (λ f. same f i) gs) ∙ stable at ∙ (λ i. filter (λ f. same f i) fs)

-- the two places at which a list in order of the numbers is cut
pub cut_in_order : (fs : List WireField) (n a b : ℕ) → a ≤ length fs
    → ((k : ℕ) (d : WireField) → a ≤ k → k < length fs → ltb (get_or fs k d).number n ≡ false)
    → ((k : ℕ) (d : WireField) → b ≤ k → k < length fs → leb (get_or fs k d).number n ≡ false)
    → ((k : ℕ) (d : WireField) → k < a → ltb (get_or fs k d).number n ≡ true) → a ≤ b
cut_in_order fs n a b within not_low more low = by (leb a b) refl
  where
    at : WireField
    at = record { number = 0; kind = kinds.Group; next = 0 }

    by : (t : Bool) → leb a b ≡ t → a ≤ b
    by true e = leb-true a b e
    by false e =
        let lt : b < a = leb-false a b e in
        let less : ltb (get_or fs b at).number n ≡ true = low b at lt in
        let not_most : leb (get_or fs b at).number n ≡ false = more b at (omega arith) (omega (arith, lt, within)) in
        absurd (let l = ltb-true (get_or fs b at).number n less in
        let m = leb-false (get_or fs b at).number n not_most in omega (arith, l, m))

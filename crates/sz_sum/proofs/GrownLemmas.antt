-- Sums that grow number by number.
use Rattle.std.proofs.Common.{◌≡◌, ◌∙◌, ℕ, zero, suc, ◌+◌, ◌<◌, ◌≤◌, ℤ, pos, ◌+ℤ◌, List, [], ◌∷◌, length, take, get_or, refl, sym, ap, subst, arith}
use Rattle.std.specs.Prelude.{slice_index_or}
use Rattle.sz_tabs.specs.Bounds.{IsWithin, AreWithin, added_at}
use Rattle.sz_tabs.specs.Rows.{plus}
use Rattle.sz_tabs.proofs.ForCallers.{plus_nothing}

-- with the first of the numbers added, sums are no further from 0 than before or with all of them
partial : (a : ℕ) (ms ns : List ℤ) (k : ℕ) → AreWithin a ms → AreWithin a (plus ms ns) → length ns ≤ length ms
    → AreWithin a (plus ms (take k ns))
partial a ms [] zero h p le = subst (AreWithin a) (sym (plus_nothing ms)) h
partial a ms [] (suc k) h p le = subst (AreWithin a) (sym (plus_nothing ms)) h
partial a [] (n ∷ ns) k h p le = absurd (omega (arith, le))
partial a (m ∷ ms) (n ∷ ns) zero h p le = h
partial a (m ∷ ms) (n ∷ ns) (suc k) h p le = (p.0, partial a ms ns k h.1 p.1 (omega (arith, le)))

-- the next number has its place
next : (ms ns : List ℤ) (k : ℕ) (n : ℤ) → k < length ns → n ≡ get_or ns k n → length ns ≤ length ms
    → added_at k n (plus ms (take k ns)) ≡ plus ms (take (suc k) ns)
next ms [] k n there is le = absurd (omega (arith, there))
next [] (l ∷ ns) k n there is le = absurd (omega (arith, le))
next (m ∷ ms) (l ∷ ns) zero n there is le = λ i. (m +ℤ is i) ∷ sym (plus_nothing ms) i
next (m ∷ ms) (l ∷ ns) (suc k) n there is le =
    ap (λ t. (m +ℤ l) ∷ t) (next ms ns k n (omega (arith, there)) is (omega (arith, le)))

pub length_kept : (ms ns : List ℤ) → length ns ≤ length ms → length (plus ms ns) ≡ length ms
length_kept [] [] le = refl
length_kept [] (n ∷ ns) le = absurd (omega (arith, le))
length_kept (m ∷ ms) [] le = refl
length_kept (m ∷ ms) (n ∷ ns) le = let more = length_kept ms ns (omega (arith, le)) in omega (arith, more)

pub length_first : (ms ns : List ℤ) → length ms ≤ length (plus ms ns)
length_first [] ns = omega arith
length_first (m ∷ ms) [] = omega arith
length_first (m ∷ ms) (n ∷ ns) = let more = length_first ms ns in omega (arith, more)

-- each number of the list is as near to 0 as all
pub within_at : (a : ℕ) (ns : List ℤ) (k : ℕ) (n : ℤ) → k < length ns → n ≡ get_or ns k n
    → AreWithin a ns → IsWithin a n
within_at a [] k n there is h = absurd (omega (arith, there))
within_at a (m ∷ ns) zero n there is h = subst (IsWithin a) (sym is) h.0
within_at a (m ∷ ns) (suc k) n there is h = within_at a ns k n (omega (arith, there)) is h.1

-- the number at a place is there whatever stands for one that is missing
pub picked : (ns : List ℤ) (k : ℕ) (n : ℤ) → k < length ns → n ≡ slice_index_or ns k (pos 0) → n ≡ get_or ns k n
picked [] k n there is = absurd (omega (arith, there))
picked (m ∷ ns) zero n there is = is
picked (m ∷ ns) (suc k) n there is = picked ns k n (omega (arith, there)) is

-- what was added to the sum at a place is near to 0, if all are
pub added_within_at : (a : ℕ) (ns : List ℤ) (k : ℕ) (sum n : ℤ) → k < length ns → sum ≡ get_or ns k sum
    → AreWithin a (added_at k n ns) → IsWithin a (sum +ℤ n)
added_within_at a [] k sum n there is h = absurd (omega (arith, there))
added_within_at a (m ∷ ns) zero sum n there is h = subst (λ s. IsWithin a (s +ℤ n)) (sym is) h.0
added_within_at a (m ∷ ns) (suc k) sum n there is h = added_within_at a ns k sum n (omega (arith, there)) is h.1

-- the first of the numbers were added
pub record IsGrown (first now more : List ℤ) (count : ℕ) : Type 0 where
  pub is : now ≡ plus first (take count more)
  pub upto : count ≤ length more

pub grown_none : (first more : List ℤ) → IsGrown first first more 0
grown_none first [] = record { is = sym (plus_nothing first); upto = omega arith }
grown_none first (m ∷ more) = record { is = sym (plus_nothing first); upto = omega arith }

module _ (first now more : List ℤ) (count : ℕ) (room : length more ≤ length first)
    (h : IsGrown first now more count) where
  pub grown_place : count < length more → count < length now
  grown_place there = let more = length_first first (take count more) in
      omega (arith, there, room, more, ap length h.is)

  pub grown_within : (a : ℕ) → AreWithin a first → AreWithin a (plus first more) → AreWithin a now
  grown_within a within fits = subst (AreWithin a) (sym h.is) (partial a first more count within fits room)

  pub grown_next : (n : ℤ) → count < length more → n ≡ get_or more count n
      → added_at count n now ≡ plus first (take (count + 1) more)
  grown_next n there is =
      let turned : suc count ≡ count + 1 = omega arith in
      ap (added_at count n) h.is ∙ next first more count n there is room ∙ ap (λ k. plus first (take k more)) turned

  pub grown_next_within : (a : ℕ) (n : ℤ) → count < length more → n ≡ get_or more count n → AreWithin a first
      → AreWithin a (plus first more) → AreWithin a (added_at count n now)
  grown_next_within a n there is within fits =
      subst (AreWithin a) (sym (grown_next n there is)) (partial a first more (count + 1) within fits room)

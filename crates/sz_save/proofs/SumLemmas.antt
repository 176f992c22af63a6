-- Sums added, one by one.
use Rattle.std.proofs.Common.{◌≡◌, ◌∙◌, ℕ, zero, suc, ◌+◌, ◌<◌, ◌≤◌, ◌^◌, ℤ, pos, ◌+ℤ◌, Some, List, [], ◌∷◌, ◌++◌, length, take, drop, set, slice_get, get_or, refl, sym, ap, subst, arith}
use Rattle.sz_tabs.specs.Bounds.{IsWithin, AreWithin}
use Rattle.sz_tabs.specs.Data.{RowDatum}
use Rattle.sz_tabs.specs.Rows.{plus}
use Rattle.sz_tabs.proofs.ForCallers.{within_further, within_plus}
use Rattle.sz_save.specs.Joined.{sums_in}
use Rattle.sz_save.specs.Walk.{CanAdd}

pub length_of_plus : (ns ms : List ℤ) → length ms ≡ length ns → length (plus ns ms) ≡ length ns
length_of_plus [] [] long = refl
length_of_plus [] (m ∷ ms) long = absurd (omega (arith, long))
length_of_plus (n ∷ ns) [] long = refl
length_of_plus (n ∷ ns) (m ∷ ms) long = let more = length_of_plus ns ms (omega (arith, long)) in omega (arith, more)

-- the sum at a place
pub plus_at : (ns ms : List ℤ) (i : ℕ) (n m d : ℤ) → length ms ≡ length ns → i < length ns → n ≡ get_or ns i n
    → m ≡ get_or ms i m → n +ℤ m ≡ get_or (plus ns ms) i d
plus_at [] ms i n m d long less is also = absurd (omega (arith, less))
plus_at (k ∷ ns) [] i n m d long less is also = absurd (omega (arith, long))
plus_at (k ∷ ns) (l ∷ ms) zero n m d long less is also = λ i. is i +ℤ also i
plus_at (k ∷ ns) (l ∷ ms) (suc i) n m d long less is also =
    plus_at ns ms i n m d (omega (arith, long)) (omega (arith, less)) is also

-- a number at a place is as near to 0 as all, and it is there whatever stands for one that is missing
pub within_at : (a : ℕ) (ns : List ℤ) (k : ℕ) (n : ℤ) → k < length ns → n ≡ get_or ns k n
    → AreWithin a ns → IsWithin a n
within_at a [] k n there is h = absurd (omega (arith, there))
within_at a (m ∷ ns) zero n there is h = subst (IsWithin a) (sym is) h.0
within_at a (m ∷ ns) (suc k) n there is h = within_at a ns k n (omega (arith, there)) is h.1

pub picked : (ns : List ℤ) (k : ℕ) (n : ℤ) → k < length ns → n ≡ get_or ns k (pos 0) → n ≡ get_or ns k n
picked [] k n there is = absurd (omega (arith, there))
picked (m ∷ ns) zero n there is = is
picked (m ∷ ns) (suc k) n there is = picked ns k n (omega (arith, there)) is

pub both_within : (a : ℕ) (ns ms : List ℤ) (i : ℕ) (n m : ℤ) → length ms ≡ length ns → i < length ns
    → n ≡ get_or ns i n → m ≡ get_or ms i m → AreWithin a (plus ns ms) → IsWithin a (n +ℤ m)
both_within a ns ms i n m long less is also h =
    let more = length_of_plus ns ms long in
    within_at a (plus ns ms) i (n +ℤ m) (omega (arith, less, more)) (plus_at ns ms i n m (n +ℤ m) long less is also) h

-- the first sums are added in place, and the others stand as they did
abbrev pub added_up_to : ℕ → List ℤ → List ℤ → List ℤ
added_up_to i ns ms = take i (plus ns ms) ++ drop i ns

-- the next one stands as it did
pub next_stands : (ns ms : List ℤ) (i : ℕ) → length ms ≡ length ns → i < length ns
    → slice_get (added_up_to i ns ms) i ≡ slice_get ns i
next_stands [] ms i long less = absurd (omega (arith, less))
next_stands (n ∷ ns) [] i long less = absurd (omega (arith, long))
next_stands (n ∷ ns) (m ∷ ms) zero long less = refl
next_stands (n ∷ ns) (m ∷ ms) (suc i) long less = next_stands ns ms i (omega (arith, long)) (omega (arith, less))

pub still_long : (ns ms : List ℤ) (i : ℕ) → length ms ≡ length ns → length (added_up_to i ns ms) ≡ length ns
still_long [] [] zero long = refl
still_long [] [] (suc i) long = refl
still_long [] (m ∷ ms) i long = absurd (omega (arith, long))
still_long (n ∷ ns) [] i long = absurd (omega (arith, long))
still_long (n ∷ ns) (m ∷ ms) zero long = refl
still_long (n ∷ ns) (m ∷ ms) (suc i) long = let more = still_long ns ms i (omega (arith, long)) in omega (arith, more)

-- and is added
pub next_added : (ns ms : List ℤ) (i : ℕ) (n m sum : ℤ) → length ms ≡ length ns → i < length ns → n ≡ get_or ns i n
    → m ≡ get_or ms i m → sum ≡ n +ℤ m → set (added_up_to i ns ms) i sum ≡ added_up_to (i + 1) ns ms
next_added [] ms i n m sum long less is also total = absurd (omega (arith, less))
next_added (k ∷ ns) [] i n m sum long less is also total = absurd (omega (arith, long))
next_added (k ∷ ns) (l ∷ ms) zero n m sum long less is also total = λ j. (total ∙ (λ h. is h +ℤ also h)) j ∷ ns
next_added (k ∷ ns) (l ∷ ms) (suc i) n m sum long less is also total =
    let next : suc i + 1 ≡ suc (i + 1) = omega arith in
    ap (λ s. (k +ℤ l) ∷ s) (next_added ns ms i n m sum (omega (arith, long)) (omega (arith, less)) is also total)
    ∙ sym (ap (λ h. added_up_to h (k ∷ ns) (l ∷ ms)) next)

pub all_added : (ns ms : List ℤ) (i : ℕ) → length ms ≡ length ns → length ns ≤ i → added_up_to i ns ms ≡ plus ns ms
all_added [] [] zero long last = refl
all_added [] [] (suc i) long last = refl
all_added [] (m ∷ ms) i long last = absurd (omega (arith, long))
all_added (n ∷ ns) [] i long last = absurd (omega (arith, long))
all_added (n ∷ ns) (m ∷ ms) zero long last = absurd (omega (arith, last))
all_added (n ∷ ns) (m ∷ ms) (suc i) long last =
    ap (λ s. (n +ℤ m) ∷ s) (all_added ns ms i (omega (arith, long)) (omega (arith, last)))

pub found_at : (ns : List ℤ) (i : ℕ) (n : ℤ) → slice_get ns i ≡ Some n → n ≡ get_or ns i n
found_at [] i n is = refl
found_at (m ∷ ns) zero n is = cc
found_at (m ∷ ns) (suc i) n is = found_at ns i n is

-- of two rows that can be added the sums are as many, and near to 0
pub record AreNear (ns ms : List ℤ) : Type 0 where
  pub as_many : length ms ≡ length ns
  pub first : AreWithin (2 ^ 126) ns
  pub second : AreWithin (2 ^ 126) ms
  pub added : AreWithin (2 ^ 126) (plus ns ms)

near : (row : RowDatum) (rows : List RowDatum) (other : RowDatum) (others : List RowDatum)
    → CanAdd (row ∷ rows) (other ∷ others) → AreNear (sums_in row.shown) (sums_in other.shown)
near row rows other others can = record {
  as_many = can.each_other.0.long ∙ sym can.each.0.long;
  first = within_further can.most (2 ^ 126) (sums_in row.shown) (omega (arith, can.low)) can.each.0.within;
  second =
      within_further can.others_most (2 ^ 126) (sums_in other.shown) (omega (arith, can.low)) can.each_other.0.within;
  added =
      within_further (can.most + can.others_most) (2 ^ 126) (plus (sums_in row.shown) (sums_in other.shown)) can.low
      (within_plus can.most can.others_most (sums_in row.shown)
      (sums_in other.shown) can.each.0.within can.each_other.0.within);
}

pub are_near : (rows others : List RowDatum) (row : RowDatum) (tail : List RowDatum) (other : RowDatum)
    (other_tail : List RowDatum) (ns ms : List ℤ) → rows ≡ row ∷ tail → others ≡ other ∷ other_tail
    → ns ≡ sums_in row.shown → ms ≡ sums_in other.shown → CanAdd rows others → AreNear ns ms
are_near rows others row tail other other_tail ns ms split other_split are others_are can =
    subst (λ l. AreNear l ms) (sym are) (subst (AreNear (sums_in row.shown)) (sym others_are)
    (near row tail other other_tail (subst (CanAdd (row ∷ tail)) other_split (subst (λ l. CanAdd l others) split can))))

-- the same, where the first row is found at its place
pub found_near : (rows others : List RowDatum) (row other : RowDatum) (tail : List RowDatum) (ms : List ℤ)
    → slice_get rows 0 ≡ Some row → others ≡ other ∷ tail
    → ms ≡ sums_in other.shown → CanAdd rows others → AreNear (sums_in row.shown) ms
found_near [] others row other tail ms there split are can = absurd (cc)
found_near (r ∷ rows) others row other tail ms there split are can =
    let first : r ≡ row = cc in
    are_near (r ∷ rows) others row rows other tail (sums_in row.shown) ms (λ i. first i ∷ rows) split refl are can

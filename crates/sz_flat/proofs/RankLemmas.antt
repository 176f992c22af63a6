-- A list whose rank is lower is the lesser one, and what ranks the values that bytes spell.
use Rattle.std.proofs.Common.{◌≡◌, ◌∙◌, ◌≢◌, ◌⊎◌, ℕ, zero, suc, ◌+◌, ◌*◌, ◌^◌, ◌<◌, ◌≤◌, min, ℤ, pos, negsuc, true, false, cond, List, [], ◌∷◌, ◌++◌, length}
use Rattle.std.proofs.Common.{refl, sym, ap, arith, slice_index, length-append}
use Rattle.std.proofs.lemmas.Bool.{cases_order}
use Rattle.std.proofs.lemmas.Int.{ints}
use Rattle.std.proofs.Math.Logic.{∥∥₁_elim}
use mathlib.Core.Logic.{inl, inr, ⊎_elim}
use Rattle.std.specs.Cmp.{nat_cmp_is, int_cmp_is, ranked}
use Rattle.std.specs.Cmp.Lexicographic.{slice_cmp, lists_total}
use Rattle.std.specs.Ordering.{nat_cmp, int_cmp, ordering_then, ordering_reverse, Ordering-set}
use Rattle.std.specs.declared.cmp.Ordering.{Ordering}
use Rattle.std.specs.declared.cmp.Ordering.TheVariants.{Less, Equal, Greater}
use Rattle.sz_value.specs.Data.{Datum, truth, int, time, str, bytes, array, tuple, mapping, data_of}
use Rattle.sz_value.specs.Order.{compare, kind}
use Rattle.sz_value.specs.Total.{compare_total}
use Rattle.sz_flat.specs.Comparing.{truths}
use Rattle.sz_flat.specs.Kept.{some_bytes}
use Rattle.sz_flat.specs.Rank.{front_number, near_number, near_string, rank_in_kind, rank_of, AreBytes, HasBytes, RanksInKind, Ranks, IsRank, Front, RanksAll}
use Rattle.sz_flat.specs.Reading.{values, numbers, strings}
use Rattle.sz_flat.specs.Spelling.{spelling, spelled_parts}
use Rattle.sz_flat.proofs.ReadingLemmas.{head, tail}

-- so many bytes from the front are the same
abbrev Agree : ℕ → List ℕ → List ℕ → Type 0
Agree zero s t = Unit {0}
Agree (suc count) s t = Agree count s t × (slice_index s count ≡ slice_index t count)

agree : (count : ℕ) (s t : List ℕ) → AreBytes s → AreBytes t → front_number count s ≡ front_number count t
    → Agree count s t
agree zero s t h k e = tt
agree (suc count) s t h k e =
    let one = h count in let other = k count in
    (agree count s t h k (omega (arith, e, one, other)), omega (arith, e, one, other))

first_agrees : (count : ℕ) (a b : ℕ) (s t : List ℕ) → Agree (suc count) (a ∷ s) (b ∷ t) → a ≡ b
first_agrees zero a b s t h = h.1
first_agrees (suc count) a b s t h = first_agrees count a b s t h.0

others_agree : (count : ℕ) (a b : ℕ) (s t : List ℕ) → Agree (suc count) (a ∷ s) (b ∷ t) → Agree count s t
others_agree zero a b s t h = tt
others_agree (suc count) a b s t h = (others_agree count a b s t h.0, h.1)

-- the first byte that differs decides
decides : (count : ℕ) (s t : List ℕ) → Agree count s t → slice_index s count < slice_index t count
    → slice_cmp nat_cmp s t ≡ Less
decides count [] [] h less = absurd (omega (arith, less))
decides count [] (b ∷ t) h less = refl
decides count (a ∷ s) [] h less = absurd (omega (arith, less))
decides zero (a ∷ s) (b ∷ t) h less = ap (λ o. ordering_then o (slice_cmp nat_cmp s t)) (sym (nat_cmp_is a b Less less))
decides (suc count) (a ∷ s) (b ∷ t) h less =
    ap (λ o. ordering_then o (slice_cmp nat_cmp s t)) (sym (nat_cmp_is a b Equal (first_agrees count a b s t h)))
    ∙ decides count s t (others_agree count a b s t h) less

-- where the numbers differ, so do the bytes: those in front, or else the one after them
front_or_next : (count : ℕ) (s t : List ℕ) → AreBytes s → AreBytes t
    → front_number (suc count) s < front_number (suc count) t → (front_number count s < front_number count t)
    ⊎ ((front_number count s ≡ front_number count t) × (slice_index s count < slice_index t count))
front_or_next count s t h k less = by (cases_order (front_number count s) (front_number count t))
  where
    by : (front_number count s ≡ front_number count t)
        ⊎ ((front_number count s < front_number count t) ⊎ (front_number count t < front_number count s))
        → (front_number count s < front_number count t)
        ⊎ ((front_number count s ≡ front_number count t) × (slice_index s count < slice_index t count))
    by (inl same) = inr (same, omega (arith, same, less))
    by (inr (inl lower)) = inl lower
    by (inr (inr higher)) = absurd (let one = h count in let other = k count in omega (arith, higher, less, one, other))

lower_front : (count : ℕ) (s t : List ℕ) → AreBytes s → AreBytes t → front_number count s < front_number count t
    → slice_cmp nat_cmp s t ≡ Less
lower_front zero s t h k less = absurd (omega (arith, less))
lower_front (suc count) s t h k less =
    ⊎_elim (lower_front count s t h k) (λ next. decides count s t (agree count s t h k next.0) next.1)
    (front_or_next count s t h k less)

lower_number : (m n : ℤ) → near_number m < near_number n → int_cmp m n ≡ Less
lower_number (pos m) (pos n) less = sym (int_cmp_is (pos m) (pos n) Less (omega (arith, ints, less)))
lower_number (pos m) (negsuc n) less = absurd (omega (arith, less))
lower_number (negsuc m) (pos n) less = sym (int_cmp_is (negsuc m) (pos n) Less (omega (arith, ints)))
lower_number (negsuc m) (negsuc n) less = sym (int_cmp_is (negsuc m) (negsuc n) Less (omega (arith, ints, less)))

number_below : (n : ℤ) → near_number n < 2 ^ 60
number_below (pos n) = omega arith
number_below (negsuc n) = omega arith

string_below : (s : List ℕ) → AreBytes s → near_string s < 2 ^ 60
string_below s h =
    let a = h 0 in
    let b = h 1 in
    let c = h 2 in
    let d = h 3 in
    let e = h 4 in
    let f = h 5 in
    let g = h 6 in
    let l = h 7 in
    omega (arith, a, b, c, d, e, f, g, l)

below : (d : Datum) → HasBytes d → rank_in_kind d < 2 ^ 60
below (truth false) h = omega arith
below (truth true) h = omega arith
below (int n) h = number_below n
below (time n) h = number_below n
below (str s) h = string_below s h
below (bytes s) h = string_below s h
below (array ds) h = omega arith
below (tuple ds) h = omega arith
below (mapping es) h = omega arith

lower_value : (d e : Datum) → HasBytes d → HasBytes e → rank_of (d ∷ []) < rank_of (e ∷ []) → compare d e ≡ Less
lower_value (truth false) (truth false) h k less = absurd (omega (arith, less))
lower_value (truth false) (truth true) h k less = refl
lower_value (truth true) (truth false) h k less = absurd (omega (arith, less))
lower_value (truth true) (truth true) h k less = absurd (omega (arith, less))
lower_value (int m) (int n) h k less = lower_number m n (omega (arith, less))
lower_value (time m) (time n) h k less = lower_number m n (omega (arith, less))
lower_value (str s) (str t) h k less = lower_front 8 s t h k (omega (arith, less))
lower_value (bytes s) (bytes t) h k less = lower_front 8 s t h k (omega (arith, less))
lower_value (array ds) (array es) h k less = absurd (omega (arith, less))
lower_value (tuple ds) (tuple es) h k less = absurd (omega (arith, less))
lower_value (mapping ps) (mapping qs) h k less = absurd (omega (arith, less))
lower_value d e h k less = sym (nat_cmp_is (kind d) (kind e) Less
    (let one = below d h in let other = below e k in omega (arith, less, one, other)))

lower_list : (xs ys : List Datum) (rank other : ℕ) → Ranks xs rank → Ranks ys other → rank < other
    → slice_cmp compare xs ys ≡ Less
lower_list [] [] rank other h k less = absurd (let one = h.is in let second = k.is in omega (arith, less, one, second))
lower_list [] (y ∷ ys) rank other h k less = refl
lower_list (x ∷ xs) [] rank other h k less = absurd (let second = k.is in omega (arith, less, second))
lower_list (x ∷ xs) (y ∷ ys) rank other h k less =
    ap (λ o. ordering_then o (slice_cmp compare xs ys))
    (lower_value x y h.bytes k.bytes (let one = h.is in let second = k.is in omega (arith, less, one, second)))

-- where ranks differ, the lists compare as they do
pub ranks_decide : (xs ys : List Datum) (rank other : ℕ) → IsRank xs rank → IsRank ys other → (found : Ordering)
    → found ≡ nat_cmp rank other → found ≢ Equal → found ≡ slice_cmp compare xs ys
ranks_decide xs ys rank other first second found is apart =
    let one_way = Ordering-set found (slice_cmp compare xs ys) in
    ∥∥₁_elim first one_way (λ h. ∥∥₁_elim second one_way (λ k. by found is apart h k))
  where
    by : (o : Ordering) → o ≡ nat_cmp rank other → o ≢ Equal → Ranks xs rank → Ranks ys other
        → o ≡ slice_cmp compare xs ys
    by Less e n h k = sym (lower_list xs ys rank other h k (ranked rank other Less e))
    by Equal e n h k = absurd (n refl)
    by Greater e n h k =
        sym ((lists_total compare_total).antisymm xs ys
        ∙ ap ordering_reverse (lower_list ys xs other rank k h (ranked rank other Greater e)))

-- the values of each kind, after its byte
module _ (flat : List ℕ) (rank : ℕ) where
  pub truth_ranks : Front truths (λ b found. found ≡ cond b 1 0) flat rank → Front values RanksInKind (1 ∷ flat) rank
  truth_ranks f (truth b) rest h = record { bytes = tt; is = f b rest (record { has = tt; is = ap tail h.is }) }
  truth_ranks f d rest h = absurd (let byte = ap head h.is in omega (arith, byte))

  pub int_ranks : Front numbers (λ n found. found ≡ near_number n) flat rank → Front values RanksInKind (2 ∷ flat) rank
  int_ranks f (int n) rest h = record { bytes = tt; is = f n rest (record { has = h.has; is = ap tail h.is }) }
  int_ranks f d rest h = absurd (let byte = ap head h.is in omega (arith, byte))

  pub time_ranks : Front numbers (λ n found. found ≡ near_number n) flat rank → Front values RanksInKind (3 ∷ flat) rank
  time_ranks f (time n) rest h = record { bytes = tt; is = f n rest (record { has = h.has; is = ap tail h.is }) }
  time_ranks f d rest h = absurd (let byte = ap head h.is in omega (arith, byte))

  pub text_ranks : Front strings (λ s found. AreBytes s × (found ≡ near_string s)) flat rank
      → Front values RanksInKind (4 ∷ flat) rank
  text_ranks f (str s) rest h = let found = f s rest (record { has = h.has.0; is = ap tail h.is }) in
      record { bytes = found.0; is = found.1 }
  text_ranks f d rest h = absurd (let byte = ap head h.is in omega (arith, byte))

  pub bytes_rank : Front strings (λ s found. AreBytes s × (found ≡ near_string s)) flat rank
      → Front values RanksInKind (5 ∷ flat) rank
  bytes_rank f (bytes s) rest h = let found = f s rest (record { has = h.has; is = ap tail h.is }) in
      record { bytes = found.0; is = found.1 }
  bytes_rank f d rest h = absurd (let byte = ap head h.is in omega (arith, byte))

pub other_ranks : (byte : ℕ) (flat : List ℕ) → (1 ≤ byte → byte ≤ 5 → ⊥) → Front values RanksInKind (byte ∷ flat) 0
other_ranks byte flat other (array ds) rest h = record { bytes = tt; is = refl }
other_ranks byte flat other (tuple ds) rest h = record { bytes = tt; is = refl }
other_ranks byte flat other (mapping es) rest h = record { bytes = tt; is = refl }
other_ranks byte flat other d rest h = absurd (let e = ap head h.is in other (omega (arith, e)) (omega (arith, e)))

kind_byte : (d : Datum) (rest : List ℕ) → (head (spelling d ++ rest) ≡ kind d + 1) × (kind d < 8)
kind_byte (truth b) rest = (refl, omega arith)
kind_byte (int n) rest = (refl, omega arith)
kind_byte (time n) rest = (refl, omega arith)
kind_byte (str s) rest = (refl, omega arith)
kind_byte (bytes s) rest = (refl, omega arith)
kind_byte (array ds) rest = (refl, omega arith)
kind_byte (tuple ds) rest = (refl, omega arith)
kind_byte (mapping es) rest = (refl, omega arith)

-- the kind with what ranks in it
pub front_ranks : (byte : ℕ) (flat : List ℕ) (low rank : ℕ) → Front values RanksInKind (byte ∷ flat) low
    → rank ≡ min byte 8 * 2 ^ 60 + low → Front values (λ d. Ranks (d ∷ [])) (byte ∷ flat) rank
front_ranks byte flat low rank f is d rest h =
    let found = f d rest h in
    let inside = found.is in
    let first = ap head h.is ∙ (kind_byte d rest).0 in
    let few = (kind_byte d rest).1 in
    record { bytes = found.bytes; is = omega (arith, is, inside, first, few) }

-- no bytes, and a value in front
pub none_ranks : (flat : List ℕ) → length flat < 1 → RanksAll flat 0
none_ranks flat none [] h = record { bytes = tt; is = refl }
none_ranks flat none (d ∷ ds) h =
    absurd (let long = ap length h.is in let some = some_bytes d in
    omega (arith, long, none, some, length-append (spelling d) (spelled_parts (data_of ds))))

pub all_rank : (byte : ℕ) (flat : List ℕ) (rank : ℕ) → Front values (λ d. Ranks (d ∷ [])) (byte ∷ flat) rank
    → RanksAll (byte ∷ flat) rank
all_rank byte flat rank f [] h = absurd (let long = ap length h.is in omega (arith, long))
all_rank byte flat rank f (d ∷ ds) h =
    let found = f d (spelled_parts (data_of ds)) (record { has = h.spelled.0; is = h.is }) in
    record { bytes = found.bytes; is = found.is }

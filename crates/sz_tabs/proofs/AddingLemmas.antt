-- Sums that are added up one value after the other.
use Rattle.std.proofs.Common.{◌≡◌, ◌∙◌, ℕ, zero, suc, ◌+◌, ◌*◌, ◌^◌, ◌<◌, ◌≤◌, ℤ, pos, negsuc, ◌+ℤ◌, List, [], ◌∷◌, ◌++◌, map, length, take, get_or, set, refl, sym, ap, subst, arith, SFits, to_z, of_z}
use mir.Syntax.{w128}
use Rattle.std.proofs.lemmas.Int.{ints, to_z-of_z}
use Rattle.std.proofs.lemmas.List.{take_more, length-map, length-take, map-append}
use Rattle.sz_value.specs.Data.{Datum, data_of, parts_of}
use Rattle.sz_value.specs.Seen.{seen}
use Rattle.sz_value.specs.declared.value.Value.{Value}
use Rattle.sz_value.specs.declared.value.Value.TheVariants.{Bool, Int, Time, Str, Bytes, Array, Tuple, Map}
use Rattle.sz_tabs.specs.Bounds.{IsWithin, AreWithin, added_at}
use Rattle.sz_tabs.specs.Rows.{values_of, number_of, components_of, plus, sums_of}
use Rattle.sz_tabs.specs.SeenKept.{seen_kept}
use Rattle.sz_tabs.specs.declared.plain.Kept.{Kept}
use Rattle.sz_tabs.proofs.RowsLemmas.{plus_assoc}

fits : (most : ℕ) (z : ℤ) → most < 2 ^ 127 → IsWithin most z → SFits w128 z
fits most (pos n) few h = record { sfits = omega (arith, ints, h.high) }
fits most (negsuc n) few h = record { sfits = omega (arith, ints, h.low) }

-- a number that is passed on is the same
pub passed : (most : ℕ) (z : ℤ) → most < 2 ^ 127 → IsWithin most z → to_z w128 (of_z w128 z) ≡ z
passed most z few h = to_z-of_z w128 z (fits most z few h)

-- the parts that a list holds are those of the list
pub parts_again : (ds : List Datum) → parts_of (data_of ds) ≡ ds
parts_again [] = refl
parts_again (d ∷ ds) = ap (λ l. d ∷ l) (parts_again ds)

pub plus_nothing : (ns : List ℤ) → plus ns [] ≡ ns
plus_nothing [] = refl
plus_nothing (n ∷ ns) = refl

number_further : (a b : ℕ) (z : ℤ) → a ≤ b → IsWithin a z → IsWithin b z
number_further a b z le h = record { low = omega (arith, ints, h.low); high = omega (arith, ints, h.high) }

pub within_further : (a b : ℕ) (ns : List ℤ) → a ≤ b → AreWithin a ns → AreWithin b ns
within_further a b [] le h = tt
within_further a b (n ∷ ns) le h = (number_further a b n le h.0, within_further a b ns le h.1)

-- a sum is at most as far from 0 as both sides together
pub sum_within : (a b : ℕ) (m n : ℤ) → IsWithin a m → IsWithin b n → IsWithin (a + b) (m +ℤ n)
sum_within a b m n h k = record { low = omega (arith, ints, h.low, k.low); high = omega (arith, ints, h.high, k.high) }

pub within_plus : (a b : ℕ) (ms ns : List ℤ) → AreWithin a ms → AreWithin b ns → AreWithin (a + b) (plus ms ns)
within_plus a b [] ns h k = within_further b (a + b) ns (omega arith) k
within_plus a b (m ∷ ms) [] h k = within_further a (a + b) (m ∷ ms) (omega arith) h
within_plus a b (m ∷ ms) (n ∷ ns) h k =
    (sum_within a b m n h.0 k.0, within_plus a b ms ns h.1 k.1)

within_one_more : (a : ℕ) (ns : List ℤ) (n : ℤ) → AreWithin a ns → IsWithin a n → AreWithin a (ns ++ n ∷ [])
within_one_more a [] n h k = (k, tt)
within_one_more a (m ∷ ns) n h k = (h.0, within_one_more a ns n h.1 k)

-- the sum at a place is within the bound of all
pub within_there : (a : ℕ) (ns : List ℤ) (at : ℕ) (sum : ℤ) → at < length ns → sum ≡ get_or ns at sum → AreWithin a ns
    → IsWithin a sum
within_there a [] at sum there is h = absurd (omega arith)
within_there a (n ∷ ns) zero sum there is h = subst (IsWithin a) (sym is) h.0
within_there a (n ∷ ns) (suc at) sum there is h = within_there a ns at sum (omega arith) is h.1

-- a number that is added at a place that is there, and one that is put after the last
pub added_there : (ns : List ℤ) (at : ℕ) (sum more n : ℤ) → at < length ns → sum ≡ get_or ns at sum → more ≡ sum +ℤ n
    → set ns at more ≡ added_at at n ns
added_there [] at sum more n there is added = absurd (omega arith)
added_there (m ∷ ns) zero sum more n there is added = ap (λ k. k ∷ ns) (added ∙ ap (λ k. k +ℤ n) is)
added_there (m ∷ ns) (suc at) sum more n there is added =
    ap (λ l. m ∷ l) (added_there ns at sum more n (omega arith) is added)

pub added_after : (ns : List ℤ) (at : ℕ) (n : ℤ) → length ns ≤ at → ns ++ n ∷ [] ≡ added_at at n ns
added_after [] at n later = refl
added_after (m ∷ ns) zero n later = absurd (omega arith)
added_after (m ∷ ns) (suc at) n later = ap (λ l. m ∷ l) (added_after ns at n (omega arith))

length_plus : (ms ns : List ℤ) → length ns ≤ length (plus ms ns)
length_plus [] ns = omega arith
length_plus (m ∷ ms) [] = omega arith
length_plus (m ∷ ms) (n ∷ ns) = omega (arith, length_plus ms ns)

-- the next component
added_next : (ms ns : List ℤ) (n : ℤ) → added_at (length ns) n (plus ms ns) ≡ plus ms (ns ++ n ∷ [])
added_next [] ns n = sym (added_after ns (length ns) n (omega arith))
added_next (m ∷ ms) [] n = ap (λ l. (m +ℤ n) ∷ l) (sym (plus_nothing ms))
added_next (m ∷ ms) (k ∷ ns) n = ap (λ l. (m +ℤ k) ∷ l) (added_next ms ns n)

added_first : (ns : List ℤ) (n : ℤ) → added_at 0 n ns ≡ plus ns (n ∷ [])
added_first [] n = refl
added_first (m ∷ ns) n = ap (λ l. (m +ℤ n) ∷ l) (sym (plus_nothing ns))

-- a number adds itself
pub number_added : (v : Value) (n number : ℤ) (before after : List ℤ) → v ≡ Int n → number ≡ number_of (seen v)
    → after ≡ added_at 0 number before → after ≡ plus before (components_of (seen v))
number_added v n number before after is same added =
    added ∙ ap (λ k. added_at 0 k before) (same ∙ ap (λ w. number_of (seen w)) is) ∙ added_first before n
    ∙ ap (plus before) (sym (ap (λ w. components_of (seen w)) is))

-- a tuple has the numbers of its parts
pub components_of_tuple : (v : Value) (parts : List Datum) (slice : List Value) → v ≡ Tuple parts
    → map seen slice ≡ parts → components_of (seen v) ≡ map number_of (map seen slice)
components_of_tuple v parts slice is same =
    ap (λ w. components_of (seen w)) is ∙ ap (map number_of) (parts_again parts ∙ sym same)

-- no other value has components
pub no_components : (v : Value) → ((n : ℤ) → v ≡ Int n → ⊥) → ((parts : List Datum) → v ≡ Tuple parts → ⊥)
    → components_of (seen v) ≡ []
no_components (Bool b) number tuple = refl
no_components (Int n) number tuple = absurd (number n refl)
no_components (Time n) number tuple = refl
no_components (Str s) number tuple = refl
no_components (Bytes s) number tuple = refl
no_components (Array l) number tuple = refl
no_components (Tuple l) number tuple = absurd (tuple l refl)
no_components (Map m) number tuple = refl

-- the numbers that parts are
abbrev pub numbers_of : List Value → List ℤ
numbers_of parts = map number_of (map seen parts)

numbers_more : (parts : List Value) (count : ℕ) (part : Value) → count < length parts → part ≡ get_or parts count part
    → numbers_of (take (count + 1) parts) ≡ numbers_of (take count parts) ++ number_of (seen part) ∷ []
numbers_more parts count part there is =
    ap numbers_of (take_more parts count part there ∙ ap (λ p. take count parts ++ p ∷ []) (sym is))
    ∙ ap (map number_of) (map-append seen (take count parts) (part ∷ []))
    ∙ map-append number_of (map seen (take count parts)) (seen part ∷ [])

-- the numbers of the first parts were added
pub record IsAdded (first now : List ℤ) (parts : List Value) (count : ℕ) : Type 0 where
  pub is : now ≡ plus first (numbers_of (take count parts))
  pub fit : AreWithin (2 ^ 63) (numbers_of (take count parts))
  pub upto : count ≤ length parts

pub added_none : (first : List ℤ) (parts : List Value) → IsAdded first first parts 0
added_none first parts = record { is = sym (plus_nothing first); fit = tt; upto = omega arith }

length_numbers : (parts : List Value) (count : ℕ) → count ≤ length parts
    → length (numbers_of (take count parts)) ≡ count
length_numbers parts count upto =
    omega (
      arith,
      length-map (map seen (take count parts)) number_of,
      length-map (take count parts) seen,
      length-take count parts,
    )

-- the next number has its place, or comes after the last one
pub added_place : (first now : List ℤ) (parts : List Value) (count : ℕ) → IsAdded first now parts count
    → count ≤ length now
added_place first now parts count h =
    omega (arith, ap length h.is, length_plus first (numbers_of (take count parts)), length_numbers parts count h.upto)

pub added_within : (first now : List ℤ) (parts : List Value) (count : ℕ) → AreWithin (2 ^ 126) first
    → IsAdded first now parts count → AreWithin (2 ^ 126 + 2 ^ 63) now
added_within first now parts count within h =
    subst (AreWithin (2 ^ 126 + 2 ^ 63)) (sym h.is)
    (within_plus (2 ^ 126) (2 ^ 63) first (numbers_of (take count parts)) within h.fit)

pub added_more : (first now next : List ℤ) (parts : List Value) (count : ℕ) (part : Value) (n : ℤ)
    → count < length parts → part ≡ get_or parts count part → n ≡ number_of (seen part) → IsWithin (2 ^ 63) n
    → next ≡ added_at count n now → IsAdded first now parts count → IsAdded first next parts (count + 1)
added_more first now next parts count part n there is number fits added h =
    let so_far = numbers_of (take count parts) in
    let later : numbers_of (take (count + 1) parts) ≡ so_far ++ n ∷ [] =
    numbers_more parts count part there is ∙ ap (λ k. so_far ++ k ∷ []) (sym number) in
    record {
      is = added ∙ (λ i. added_at (sym (length_numbers parts count h.upto) i) n (h.is i)) ∙ added_next first so_far n
          ∙ ap (plus first) (sym later);
      fit = subst (AreWithin (2 ^ 63)) (sym later) (within_one_more (2 ^ 63) so_far n h.fit fits);
      upto = omega arith;
    }

-- the sums with one value more
pub sums_of_one_more : (vs : List Datum) (v : Datum) → sums_of (vs ++ v ∷ []) ≡ plus (sums_of vs) (components_of v)
sums_of_one_more [] v = plus_nothing (components_of v)
sums_of_one_more (u ∷ vs) v = ap (plus (components_of u)) (sums_of_one_more vs v)
    ∙ plus_assoc (components_of u) (sums_of vs) (components_of v)

-- the sums are those of the first emits that are kept
pub record IsSummed (sums : List ℤ) (kept : List Kept) (count : ℕ) : Type 0 where
  pub is : sums ≡ sums_of (values_of (map seen_kept (take count kept)))
  pub within : AreWithin (2 ^ 63 * count) sums

pub summed_within : (sums : List ℤ) (kept : List Kept) (count : ℕ) → count < 2 ^ 63 → IsSummed sums kept count
    → AreWithin (2 ^ 126) sums
summed_within sums kept count few h = within_further (2 ^ 63 * count) (2 ^ 126) sums (omega arith) h.within

pub summed_more : (sums next : List ℤ) (kept : List Kept) (count : ℕ) (one : Kept) → count < length kept
    → one ≡ get_or kept count one → next ≡ plus sums (components_of (seen one.value))
    → AreWithin (2 ^ 63) (components_of (seen one.value)) → IsSummed sums kept count
    → IsSummed next kept (count + 1)
summed_more sums next kept count one there is added fits h =
    let so_far = take count kept in
    let later : values_of (map seen_kept (take (count + 1) kept)) ≡ values_of (map seen_kept so_far)
    ++ seen one.value ∷ [] =
    ap (λ l. values_of (map seen_kept l)) (take_more kept count one there ∙ ap (λ k. so_far ++ k ∷ []) (sym is))
    ∙ ap values_of (map-append seen_kept so_far (one ∷ []))
    ∙ map-append (λ w. w.value) (map seen_kept so_far) (seen_kept one ∷ []) in
    let wide : 2 ^ 63 * count + 2 ^ 63 ≡ 2 ^ 63 * (count + 1) = omega arith in
    let within = within_plus (2 ^ 63 * count) (2 ^ 63) sums (components_of (seen one.value)) h.within fits in
    record {
      is = added ∙ ap (λ l. plus l (components_of (seen one.value))) h.is
          ∙ sym (sums_of_one_more (values_of (map seen_kept so_far)) (seen one.value)) ∙ ap sums_of (sym later);
      within =
          subst (λ most. AreWithin most next) wide (subst (AreWithin (2 ^ 63 * count + 2 ^ 63)) (sym added) within);
    }

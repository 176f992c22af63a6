-- What is read as a number, and where there is none.
use Rattle.std.proofs.Common.{◌≡◌, ◌∙◌, ℕ, ◌<◌, ◌^◌, nat_lt, Bool, true, false, ◌&&◌, Some, None, List, ◌++◌, length, take, drop, bytes_eq, refl, sym, ap, arith, length-append, take-append-drop, take_all, le_of_eq}
use Rattle.std.specs.Int.{Width, w32, w64, to_be_bytes, from_be_bytes}
use Rattle.std.proofs.lemmas.Bool.{and_parts}
use Rattle.std.proofs.lemmas.Slice.Eq.{bytes_eq-Decides}
use Rattle.sz_flat.specs.Spelling.{length_bytes}
use Rattle.sz_save_format.specs.Entries.{count_bytes}
use Rattle.sz_save_format.specs.Decoding.{only, fixed_at, length_at}
use Rattle.sz_save_format.specs.DecodingRows.{count_at}
use Rattle.sz_save_format.proofs.NameLemmas.{length_finds, count_finds}

-- fewer bytes are no number
short_fixed : (w : Width) (k : ℕ) (long : (n : ℕ) → length (to_be_bytes w n) ≡ k) (flat : List ℕ) → length flat < k
    → fixed_at w k flat ≡ None
unfolding fixed_at
short_fixed w k long flat short = by (nat_lt m (256 ^ k) && bytes_eq (to_be_bytes w m ++ drop k flat) flat) refl
  where
    m : ℕ
    m = from_be_bytes w (take k flat)

    by : (b : Bool) → (nat_lt m (256 ^ k) && bytes_eq (to_be_bytes w m ++ drop k flat) flat) ≡ b
        → only {X = ℕ × List ℕ} b (Some (m, drop k flat)) ≡ None
    by false e = refl
    by true e =
        let same = (bytes_eq-Decides (to_be_bytes w m ++ drop k flat) flat).0
        (and_parts (nat_lt m (256 ^ k)) (bytes_eq (to_be_bytes w m ++ drop k flat) flat) e).1 in
        let longer = length-append (to_be_bytes w m) (drop k flat) in
        let counted = ap length same in
        let four = long m in
        absurd (omega (arith, short, longer, counted, four))

pub length_lacked : (flat : List ℕ) → length flat < 4 → length_at flat ≡ None
length_lacked flat short = short_fixed w32 4 (λ n. refl) flat short

pub count_lacked : (flat : List ℕ) → length flat < 8 → count_at flat ≡ None
count_lacked flat short = short_fixed w64 8 (λ n. refl) flat short

pub length_found : (flat : List ℕ) (n : ℕ) (rest : List ℕ) → n < 2 ^ 32 → flat ≡ length_bytes n ++ rest
    → length_at flat ≡ Some (n, rest)
length_found flat n rest h is = ap length_at is ∙ length_finds.again n rest h

pub count_found : (flat : List ℕ) (n : ℕ) (rest : List ℕ) → n < 2 ^ 64 → flat ≡ count_bytes n ++ rest
    → count_at flat ≡ Some (n, rest)
count_found flat n rest h is = ap count_at is ∙ count_finds.again n rest h

-- what is cut off the front is a number, and what is left follows it
module _ (w : Width) (k : ℕ) where
  whole_bytes : (flat front rest : List ℕ) (n : ℕ) → front ≡ take k flat → rest ≡ drop k flat → length front ≡ k
      → to_be_bytes w n ≡ take k front → flat ≡ to_be_bytes w n ++ rest
  whole_bytes flat front rest n first second long is =
      sym (take-append-drop k flat) ∙ (λ i. sym first i ++ sym second i)
      ∙ (λ i. (sym (is ∙ take_all k front (le_of_eq long))) i ++ rest)

pub length_read : (flat front rest : List ℕ) (n : ℕ) → front ≡ take 4 flat → rest ≡ drop 4 flat → length front ≡ 4
    → to_be_bytes w32 n ≡ take 4 front → n < 2 ^ 32 → length_at flat ≡ Some (n, rest)
length_read flat front rest n first second long is few =
    length_found flat n rest few (whole_bytes w32 4 flat front rest n first second long is)

pub count_read : (flat front rest : List ℕ) (n : ℕ) → front ≡ take 8 flat → rest ≡ drop 8 flat → length front ≡ 8
    → to_be_bytes w64 n ≡ take 8 front → n < 2 ^ 64 → count_at flat ≡ Some (n, rest)
count_read flat front rest n first second long is few =
    count_found flat n rest few (whole_bytes w64 8 flat front rest n first second long is)

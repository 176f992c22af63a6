-- A list whose chunks are put in another order, each by itself.
use Rattle.std.proofs.Common.{◌≡◌, ◌∙◌, ℕ, zero, suc, ◌+◌, ◌*◌, ◌<◌, ◌≤◌, List, ◌++◌, take, drop, length, sym, ap, subst, arith, IsPermutation}
use Rattle.std.proofs.Common.{refl}
use native.Mathlib.Nat.{suc-mul, zero-mul}
use Rattle.std.specs.Fork.{slice_chunk}
use Rattle.std.proofs.lemmas.List.{drop-drop, length-drop, nil_from_length, take-append-drop}
use Rattle.std.proofs.lemmas.List.Sorted.{IsPermutation-append, IsPermutation-refl}

module _ {X : Type 0} (size : ℕ) (some : 0 < size) where
  -- each chunk of the one list has the elements of that of the other with its number
  abbrev pub AreChunksMoved : List X → List X → Type 0
  AreChunksMoved xs ys = (n : ℕ) → n * size < length xs → IsPermutation (slice_chunk xs size n) (slice_chunk ys size n)

  chunk_after : (xs : List X) (n : ℕ) → slice_chunk xs size (suc n) ≡ slice_chunk (drop size xs) size n
  chunk_after xs n = ap (λ k. take size (drop k xs)) (omega (arith, suc-mul n size))
      ∙ ap (take size) (sym (drop-drop (n * size) size xs))

  chunk_first : (xs : List X) → slice_chunk xs size 0 ≡ take size xs
  chunk_first xs = ap (λ k. take size (drop k xs)) (zero-mul size)

  none_moved : (xs ys : List X) → length xs ≤ 0 → length ys ≡ length xs → IsPermutation xs ys
  none_moved xs ys few same =
      subst (IsPermutation xs) (nil_from_length xs (omega (arith, few))
      ∙ sym (nil_from_length ys (omega (arith, few, same)))) (IsPermutation-refl xs)

  first_moved : (xs ys : List X) → AreChunksMoved xs ys → 0 < length xs → IsPermutation (take size xs) (take size ys)
  first_moved xs ys moved less =
      subst (λ l. IsPermutation (take size xs) l) (chunk_first ys)
      (subst (λ l. IsPermutation l (slice_chunk ys size 0)) (chunk_first xs)
      (moved 0 (omega (arith, less, zero-mul size))))

  others_moved : (xs ys : List X) → AreChunksMoved xs ys → AreChunksMoved (drop size xs) (drop size ys)
  others_moved xs ys moved n low =
      subst (IsPermutation (slice_chunk (drop size xs) size n)) (chunk_after ys n)
      (subst (λ l. IsPermutation l (slice_chunk ys size (suc n))) (chunk_after xs n)
      (moved (suc n) (omega (arith, low, length-drop size xs, suc-mul n size))))

  both_moved : (xs ys : List X) → IsPermutation (take size xs) (take size ys)
      → IsPermutation (drop size xs) (drop size ys) → IsPermutation xs ys
  both_moved xs ys first others =
      subst (IsPermutation xs) (take-append-drop size ys)
      (subst (λ l. IsPermutation l (take size ys ++ drop size ys)) (take-append-drop size xs)
      (IsPermutation-append (take size xs) (take size ys) (drop size xs) (drop size ys) first others))

  by_length : (n : ℕ) (xs ys : List X) → length xs ≡ n → length ys ≡ length xs → AreChunksMoved xs ys
      → (0 < length xs → IsPermutation (drop size xs) (drop size ys)) → IsPermutation xs ys
  by_length zero xs ys none same moved others = none_moved xs ys (omega (arith, none)) same
  by_length (suc n) xs ys more same moved others =
      let less : 0 < length xs = omega (arith, more) in both_moved xs ys (first_moved xs ys moved less) (others less)

  by_chunks : (most : ℕ) (xs ys : List X) → length xs ≤ most → length ys ≡ length xs → AreChunksMoved xs ys
      → IsPermutation xs ys
  by_chunks zero xs ys few same moved = none_moved xs ys few same
  by_chunks (suc most) xs ys few same moved =
      by_length (length xs) xs ys refl same moved
      (λ less.
      by_chunks most (drop size xs) (drop size ys) (omega (arith, few, some, less, length-drop size xs))
      (omega (arith, same, length-drop size xs, length-drop size ys)) (others_moved xs ys moved))

-- then all of the one list are those of the other
pub chunks_moved : {X : Type 0} (size : ℕ) (xs ys : List X) → 0 < size → length ys ≡ length xs
    → ((n : ℕ) → n * size < length xs → IsPermutation (slice_chunk xs size n) (slice_chunk ys size n))
    → IsPermutation xs ys
chunks_moved size xs ys some same moved = by_chunks size some (length xs) xs ys (omega arith) same moved

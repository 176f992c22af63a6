-- What can't tell the orders of a list apart: a relation that holds along each exchange of two neighbours.
use Rattle.std.proofs.Common.{ℕ, zero, suc, ◌<◌, List, [], ◌∷◌, length, get_or, set, swap, IsPermutation, arith}
use Rattle.std.proofs.lemmas.List.Sorted.{IsPermutation-keeps}

-- A relation of lists that holds of each list and itself, under one more head, of two heads in either order, and in
-- chains.
module _ {X : Type 0} (Alike : List X → List X → Type 0)
    (itself : (xs : List X) → Alike xs xs)
    (under : (x : X) (xs ys : List X) → Alike xs ys → Alike (x ∷ xs) (x ∷ ys))
    (turned : (x y : X) (xs : List X) → Alike (x ∷ y ∷ xs) (y ∷ x ∷ xs))
    (chained : (xs ys zs : List X) → Alike xs ys → Alike ys zs → Alike xs zs) where
  -- the head in the place of an element, and that element as the head
  to_place : (xs : List X) (i : ℕ) (x d : X) → i < length xs → Alike (x ∷ xs) (get_or xs i d ∷ set xs i x)
  to_place [] i x d within = absurd (omega arith)
  to_place (y ∷ xs) zero x d within = turned x y xs
  to_place (y ∷ xs) (suc i) x d within =
      let later = under y _ _ (to_place xs i x d (omega arith)) in
      chained _ _ _ (turned x y xs) (chained _ _ _ later (turned y (get_or xs i d) (set xs i x)))

  exchanged : (xs : List X) (i j : ℕ) (d : X) → i < length xs → j < length xs
      → Alike xs (set (set xs i (get_or xs j d)) j (get_or xs i d))
  exchanged [] i j d first second = absurd (omega arith)
  exchanged (x ∷ xs) zero zero d first second = itself (x ∷ xs)
  exchanged (x ∷ xs) zero (suc j) d first second = to_place xs j x d (omega arith)
  exchanged (x ∷ xs) (suc i) zero d first second = to_place xs i x d (omega arith)
  exchanged (x ∷ xs) (suc i) (suc j) d first second = under x _ _ (exchanged xs i j d (omega arith) (omega arith))

  swapped : (xs : List X) (i j : ℕ) → i < length xs → j < length xs → Alike xs (swap xs i j)
  swapped [] i j first second = itself []
  swapped (x ∷ xs) i j first second = exchanged (x ∷ xs) i j x first second

  -- it holds of a list and any order of it
  pub in_any_order : (xs ys : List X) → IsPermutation xs ys → Alike xs ys
  in_any_order xs = IsPermutation-keeps xs (Alike xs) (itself xs)
      (λ l i j first second so_far. chained xs l _ so_far (swapped l i j first second))

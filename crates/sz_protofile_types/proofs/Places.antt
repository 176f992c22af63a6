-- What stands at which place of a list.
use Rattle.std.proofs.Common.{◌≡◌, ℕ, zero, suc, ◌+◌, ◌<◌, ◌⊎◌, inl, inr, List, [], ◌∷◌, ◌++◌, length, take, map, slice_get, get_or, Some, refl, ap, ◌∙◌, arith}
use Rattle.std.specs.List.{Contains}
use Rattle.std.proofs.lemmas.Option.{none-some, same_Some}

module _ {X : Type 0} where
  pub at_within : (xs : List X) (i : ℕ) (x : X) → slice_get xs i ≡ Some x → i < length xs
  at_within [] i x h = absurd (none-some x h)
  at_within (y ∷ xs) zero x h = omega arith
  at_within (y ∷ xs) (suc i) x h = omega (arith, at_within xs i x h)

  pub at_left : (xs ys : List X) (i : ℕ) (x : X) → slice_get xs i ≡ Some x → slice_get (xs ++ ys) i ≡ Some x
  at_left [] ys i x h = absurd (none-some x h)
  at_left (y ∷ xs) ys zero x h = h
  at_left (y ∷ xs) ys (suc i) x h = at_left xs ys i x h

  pub at_right : (xs ys : List X) (n i : ℕ) (x : X) → n ≡ length xs + i → slice_get ys i ≡ Some x
      → slice_get (xs ++ ys) n ≡ Some x
  at_right [] ys n i x e h = ap (slice_get ys) (let p : n ≡ i = omega (arith, e) in p) ∙ h
  at_right (y ∷ xs) ys zero i x e h = absurd (omega (arith, e))
  at_right (y ∷ xs) ys (suc n) i x e h = at_right xs ys n i x (omega (arith, e)) h

  pub at_cases : (xs ys : List X) (n : ℕ) (x : X) → slice_get (xs ++ ys) n ≡ Some x
      → (slice_get xs n ≡ Some x) ⊎ ((i : ℕ) × (n ≡ length xs + i) × (slice_get ys i ≡ Some x))
  at_cases [] ys n x h = inr (n, omega arith, h)
  at_cases (y ∷ xs) ys zero x h = inl h
  at_cases (y ∷ xs) ys (suc n) x h = by (at_cases xs ys n x h)
    where
      by : (slice_get xs n ≡ Some x) ⊎ ((i : ℕ) × (n ≡ length xs + i) × (slice_get ys i ≡ Some x))
          → (slice_get xs n ≡ Some x) ⊎ ((i : ℕ) × (suc n ≡ suc (length xs) + i) × (slice_get ys i ≡ Some x))
      by (inl l) = inl l
      by (inr r) = inr (r.0, omega (arith, r.1), r.2)

  pub at_end : (xs : List X) (x : X) → slice_get (xs ++ x ∷ []) (length xs) ≡ Some x
  at_end xs x = at_right xs (x ∷ []) (length xs) 0 x (omega arith) refl

  pub at_last : (xs : List X) (y : X) (n : ℕ) (x : X) → slice_get (xs ++ y ∷ []) n ≡ Some x
      → (slice_get xs n ≡ Some x) ⊎ ((n ≡ length xs) × (y ≡ x))
  at_last xs y n x h = by (at_cases xs (y ∷ []) n x h)
    where
      one : (i : ℕ) → n ≡ length xs + i → slice_get (y ∷ []) i ≡ Some x → (n ≡ length xs) × (y ≡ x)
      one zero e g = (omega (arith, e), same_Some y x g)
      one (suc i) e g = absurd (none-some x g)

      by : (slice_get xs n ≡ Some x) ⊎ ((i : ℕ) × (n ≡ length xs + i) × (slice_get (y ∷ []) i ≡ Some x))
          → (slice_get xs n ≡ Some x) ⊎ ((n ≡ length xs) × (y ≡ x))
      by (inl l) = inl l
      by (inr r) = inr (one r.0 r.1 r.2)

  pub at_taken : (xs : List X) (n i : ℕ) (x : X) → slice_get (take n xs) i ≡ Some x
      → (slice_get xs i ≡ Some x) × (i < n)
  at_taken xs zero i x h = absurd (none-some x h)
  at_taken [] (suc n) i x h = absurd (none-some x h)
  at_taken (y ∷ xs) (suc n) zero x h = (h, omega arith)
  at_taken (y ∷ xs) (suc n) (suc i) x h = (let r = at_taken xs n i x h in r.0, omega (arith, (at_taken xs n i x h).1))

  pub taken_at : (xs : List X) (n i : ℕ) (x : X) → slice_get xs i ≡ Some x → i < n → slice_get (take n xs) i ≡ Some x
  taken_at xs zero i x h l = absurd (omega (arith, l))
  taken_at [] (suc n) i x h l = absurd (none-some x h)
  taken_at (y ∷ xs) (suc n) zero x h l = h
  taken_at (y ∷ xs) (suc n) (suc i) x h l = taken_at xs n i x h (omega (arith, l))

  pub at_get_or : (xs : List X) (i : ℕ) (d : X) → i < length xs → slice_get xs i ≡ Some (get_or xs i d)
  at_get_or [] i d l = absurd (omega (arith, l))
  at_get_or (y ∷ xs) zero d l = refl
  at_get_or (y ∷ xs) (suc i) d l = at_get_or xs i d (omega (arith, l))

  pub get_or_at : (xs : List X) (i : ℕ) (d x : X) → slice_get xs i ≡ Some x → get_or xs i d ≡ x
  get_or_at [] i d x h = absurd (none-some x h)
  get_or_at (y ∷ xs) zero d x h = same_Some y x h
  get_or_at (y ∷ xs) (suc i) d x h = get_or_at xs i d x h

  pub contained_at : (xs : List X) (x : X) → Contains xs x → (i : ℕ) × (slice_get xs i ≡ Some x)
  contained_at xs x c = (c.0, at_get_or xs c.0 x c.1 ∙ ap (λ y. Some y) c.2)

  pub at_contained : (xs : List X) (i : ℕ) (x : X) → slice_get xs i ≡ Some x → Contains xs x
  at_contained xs i x h = (i, at_within xs i x h, get_or_at xs i x x h)

module _ {X Y : Type 0} (f : X → Y) where
  pub mapped_at : (xs : List X) (i : ℕ) (x : X) → slice_get xs i ≡ Some x → slice_get (map f xs) i ≡ Some (f x)
  mapped_at [] i x h = absurd (none-some x h)
  mapped_at (y ∷ xs) zero x h = ap (λ z. Some (f z)) (same_Some y x h)
  mapped_at (y ∷ xs) (suc i) x h = mapped_at xs i x h

  pub at_mapped : (xs : List X) (i : ℕ) (y : Y) → slice_get (map f xs) i ≡ Some y
      → (x : X) × (slice_get xs i ≡ Some x) × (f x ≡ y)
  at_mapped [] i y h = absurd (none-some y h)
  at_mapped (x ∷ xs) zero y h = (x, refl, same_Some (f x) y h)
  at_mapped (x ∷ xs) (suc i) y h = at_mapped xs i y h

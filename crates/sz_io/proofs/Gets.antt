-- The elements of a list after a write or a push.
use Rattle.std.proofs.Common.{◌≡◌, ◌≢◌, ◌⊎◌, inl, inr, ℕ, ◌<◌, suc, zero, List, [], ◌∷◌, ◌++◌, Some, refl, sym, ap, ◌∙◌, length, map, arith}
use Rattle.std.proofs.Math.ListN.{set}
use Rattle.std.specs.List.{slice_get}

pub slice_get-set : {X : Type 0} (xs : List X) (k number : ℕ) (x y : X) → slice_get (set xs k x) number ≡ Some y
    → (y ≡ x) ⊎ (slice_get xs number ≡ Some y)
slice_get-set [] k number x y there = inr there
slice_get-set (z ∷ xs) zero zero x y there = inl (sym cc)
slice_get-set (z ∷ xs) zero (suc number) x y there = inr there
slice_get-set (z ∷ xs) (suc k) zero x y there = inr there
slice_get-set (z ∷ xs) (suc k) (suc number) x y there = slice_get-set xs k number x y there

pub slice_get-set_same : {X : Type 0} (xs : List X) (k : ℕ) (x : X) → k < length xs → slice_get (set xs k x) k ≡ Some x
slice_get-set_same [] k x inside = absurd (omega arith)
slice_get-set_same (z ∷ xs) zero x inside = refl
slice_get-set_same (z ∷ xs) (suc k) x inside = slice_get-set_same xs k x (omega arith)

pub slice_get-set_other : {X : Type 0} (xs : List X) (k j : ℕ) (x : X) → j ≢ k
    → slice_get (set xs k x) j ≡ slice_get xs j
slice_get-set_other [] k j x apart = refl
slice_get-set_other (z ∷ xs) zero zero x apart = absurd (apart refl)
slice_get-set_other (z ∷ xs) zero (suc j) x apart = refl
slice_get-set_other (z ∷ xs) (suc k) zero x apart = refl
slice_get-set_other (z ∷ xs) (suc k) (suc j) x apart = slice_get-set_other xs k j x (λ e. apart (ap suc e))

pub slice_get-push : {X : Type 0} (xs : List X) (number : ℕ) (x y : X) → slice_get (xs ++ x ∷ []) number ≡ Some y
    → (y ≡ x) ⊎ (slice_get xs number ≡ Some y)
slice_get-push [] zero x y there = inl (sym cc)
slice_get-push [] (suc number) x y there = inr there
slice_get-push (z ∷ xs) zero x y there = inr there
slice_get-push (z ∷ xs) (suc number) x y there = slice_get-push xs number x y there

pub slice_get-push_old : {X : Type 0} (xs : List X) (j : ℕ) (x : X) → j < length xs
    → slice_get (xs ++ x ∷ []) j ≡ slice_get xs j
slice_get-push_old [] j x inside = absurd (omega arith)
slice_get-push_old (z ∷ xs) zero x inside = refl
slice_get-push_old (z ∷ xs) (suc j) x inside = slice_get-push_old xs j x (omega arith)

pub slice_get-push_new : {X : Type 0} (xs : List X) (x : X) → slice_get (xs ++ x ∷ []) (length xs) ≡ Some x
slice_get-push_new [] x = refl
slice_get-push_new (z ∷ xs) x = slice_get-push_new xs x

pub slice_get-push_other : {X : Type 0} (xs : List X) (j : ℕ) (x : X) → j ≢ length xs
    → slice_get (xs ++ x ∷ []) j ≡ slice_get xs j
slice_get-push_other [] zero x apart = absurd (apart refl)
slice_get-push_other [] (suc j) x apart = refl
slice_get-push_other (z ∷ xs) zero x apart = refl
slice_get-push_other (z ∷ xs) (suc j) x apart = slice_get-push_other xs j x (λ e. apart (ap suc e))

-- a list of parts is the same after a write that leaves the part
pub map-set_same : {X Y : Type 0} (part : X → Y) (xs : List X) (k : ℕ) (x y : X) → slice_get xs k ≡ Some x
    → part y ≡ part x → map part (set xs k y) ≡ map part xs
map-set_same part [] k x y there same = refl
map-set_same part (z ∷ xs) zero x y there same =
    let here : x ≡ z = sym cc in
    ap (λ first. first ∷ map part xs) (same ∙ ap part here)
map-set_same part (z ∷ xs) (suc k) x y there same = ap (λ more. part z ∷ more) (map-set_same part xs k x y there same)

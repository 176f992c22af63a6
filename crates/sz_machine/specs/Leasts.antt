-- The least number that passes a test.
use Rattle.std.specs.Prelude.{◌≡◌, ◌⊎◌, ℕ, zero, suc, ◌<◌, ◌≤◌, Bool, true, false}
use Rattle.std.specs.Coded.{Coded-set, coded_bool, ×_prop, Π_prop, →_prop}
use Rattle.std.proofs.Common.{arith, sym, ◌∙◌, refl, subst, true≢false, inl, inr}
use Rattle.std.proofs.Math.Nat.{eq-or-lt_of_le}
use Rattle.std.proofs.lemmas.Bool.{cases_lt}
use mathlib.Core.HLevel.{Σ_prop_path}

-- the number passes, and no lesser one does
abbrev pub IsLeast : (ℕ → Bool) → ℕ → Type 0
IsLeast test n = (test n ≡ true) × ((k : ℕ) → k < n → test k ≡ false)

-- a number that passes, and no lesser one does
abbrev pub Least : (ℕ → Bool) → Type 0
Least test = (n : ℕ) × IsLeast test n

one_least : (test : ℕ → Bool) (n m : ℕ) → IsLeast test n → IsLeast test m → n ≡ m
one_least test n m a b = by (cases_lt n m) (cases_lt m n)
  where
    not_less : (n m : ℕ) → IsLeast test n → IsLeast test m → n < m → ⊥
    not_less n m a b less = true≢false (sym a.0 ∙ b.1 n less)

    by : (n < m) ⊎ (m ≤ n) → (m < n) ⊎ (n ≤ m) → n ≡ m
    by (inl less) _ = absurd (not_less n m a b less)
    by (inr _) (inl less) = absurd (not_less m n b a less)
    by (inr most) (inr least) = omega (arith, most, least)

-- there is one such number
pub least_prop : (test : ℕ → Bool) → IsProp (Least test)
least_prop test u v =
    Σ_prop_path
    (λ n. ×_prop (Coded-set coded_bool (test n) true) (Π_prop (λ k. →_prop (Coded-set coded_bool (test k) false))))
    (one_least test u.0 v.0 u.1 v.1)

-- where one passes there is a least one
pub least_from : (test : ℕ → Bool) (n : ℕ) → test n ≡ true → Least test
least_from test n passes = go n passes (below n)
  where
    last : (n k : ℕ) → ((k : ℕ) → k < n → test k ≡ false) → test n ≡ false → (k ≡ n) ⊎ (k < n) → test k ≡ false
    last n k none is (inr less) = none k less
    last n k none is (inl same) = subst (λ j. test j ≡ false) (sym same) is

    step : (n : ℕ) → ((k : ℕ) → k < n → test k ≡ false) ⊎ Least test → (b : Bool) → test n ≡ b
        → ((k : ℕ) → k < suc n → test k ≡ false) ⊎ Least test
    step n (inr found) b is = inr found
    step n (inl none) true is = inr (n, (is, none))
    step n (inl none) false is = inl (λ k less. last n k none is (eq-or-lt_of_le (omega (arith, less))))

    below : (n : ℕ) → ((k : ℕ) → k < n → test k ≡ false) ⊎ Least test
    below zero = inl (λ k less. absurd (omega (arith, less)))
    below (suc n) = step n (below n) (test n) refl

    go : (n : ℕ) → test n ≡ true → ((k : ℕ) → k < n → test k ≡ false) ⊎ Least test → Least test
    go n passes (inl none) = (n, (passes, none))
    go n passes (inr found) = found

-- Slots that have types: what is got from them, and what they are with one more value.
use Rattle.std.proofs.Common.{◌≡◌, ℕ, zero, suc, ◌-◌, ◌<◌, List, [], ◌∷◌, ◌++◌, length, map, Some, None, subst, arith}
use Rattle.std.specs.Prelude.{slice_get, slice_set}
use Rattle.sz_types.specs.Data.{Shape}
use Rattle.sz_value.specs.Data.{Datum}
use Rattle.sz_world_rules.specs.Slots.{Slot, slot_at, undefined_slots, fresh}
use Rattle.sz_world_rules.specs.Typed.{Fits, AllFit}

-- a slot of slots that have types
pub fit_at : (xs : List Slot) (ts : List Shape) (n : ℕ) (t : Shape) → AllFit xs ts → slice_get ts n ≡ Some t
    → (n < length xs) × Fits (slot_at xs n) t
fit_at [] [] n t h is = absurd cc
fit_at [] (u ∷ ts) n t h is = absurd h
fit_at (x ∷ xs) [] n t h is = absurd h
fit_at (x ∷ xs) (u ∷ ts) zero t h is = let same : u ≡ t = cc in (omega arith, subst (λ v. Fits x v) same h.0)
fit_at (x ∷ xs) (u ∷ ts) (suc n) t h is = let p = fit_at xs ts n t h.1 is in let lt = p.0 in (omega arith, p.1)

-- one of them with another value of its type
pub fit_set : (xs : List Slot) (ts : List Shape) (n : ℕ) (v : Slot) (t : Shape) → AllFit xs ts
    → slice_get ts n ≡ Some t → Fits v t → AllFit (slice_set xs n v) ts
fit_set [] [] n v t h is k = tt
fit_set [] (u ∷ ts) n v t h is k = absurd h
fit_set (x ∷ xs) [] n v t h is k = absurd h
fit_set (x ∷ xs) (u ∷ ts) zero v t h is k = let same : t ≡ u = cc in (subst (λ w. Fits v w) same k, h.1)
fit_set (x ∷ xs) (u ∷ ts) (suc n) v t h is k = (h.0, fit_set xs ts n v t h.1 is k)

-- one of them undefined
pub fit_clear : (xs : List Slot) (ts : List Shape) (n : ℕ) → AllFit xs ts → AllFit (slice_set xs n None) ts
fit_clear [] [] n h = tt
fit_clear [] (u ∷ ts) n h = absurd h
fit_clear (x ∷ xs) [] n h = absurd h
fit_clear (x ∷ xs) (u ∷ ts) zero h = (tt, h.1)
fit_clear (x ∷ xs) (u ∷ ts) (suc n) h = (h.0, fit_clear xs ts n h.1)

pub fit_undefined : (ts : List Shape) → AllFit (undefined_slots (length ts)) ts
fit_undefined [] = tt
fit_undefined (t ∷ ts) = (tt, fit_undefined ts)

-- the first variables are arguments of their types, and the others are undefined
pub fit_fresh : (arguments : List Datum) (front whole rest : List Shape) → whole ≡ front ++ rest
    → AllFit (map (λ d. Some d) arguments) front → AllFit (fresh (length whole) arguments) whole
fit_fresh [] [] whole rest e h =
    let same : length whole ≡ length whole - 0 = omega arith in
    subst (λ n. AllFit (undefined_slots n) whole) same (fit_undefined whole)
fit_fresh [] (t ∷ front) whole rest e h = absurd h
fit_fresh (d ∷ ds) [] whole rest e h = absurd h
fit_fresh (d ∷ ds) (t ∷ front) [] rest e h = absurd cc
fit_fresh (d ∷ ds) (t ∷ front) (u ∷ whole) rest e h =
    let same : t ≡ u = cc in
    let same1 : whole ≡ front ++ rest = cc in
    let fewer : length whole - length ds ≡ length (u ∷ whole) - length (d ∷ ds) = omega arith in (
      subst (λ w. Fits (Some d) w) same h.0,
      subst (λ n. AllFit (map (λ d. Some d) ds ++ undefined_slots n) whole) fewer
          (fit_fresh ds front whole rest same1 h.1),
    )

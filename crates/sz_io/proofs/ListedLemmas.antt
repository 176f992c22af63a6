-- The faults of a device that fails where a list says so.
use Rattle.std.proofs.Common.{◌≡◌, ℕ, zero, suc, ◌+◌, ◌-◌, ◌^◌, ◌<◌, ◌≤◌, min, Bool, true, false, IsTrue, if◌then◌else◌, nat_lt, nat_eq, List, inl}
use Rattle.std.proofs.Common.{refl, ap, ◌∙◌, arith, tests}
use Rattle.std.proofs.lemmas.Bool.{and_right, ltb-true, ltb-false}
use Rattle.std.specs.List.{list_any}
use Rattle.sz_io.specs.Rose.{Rose}
use Rattle.sz_io.specs.Listed.{listed_before, is_listed}

-- there are no more faults than calls
pub listed_most : (fails : List ℕ) (call : ℕ) → listed_before call fails ≤ call
listed_most fails zero = omega arith
listed_most fails (suc call) = grind (arith, tests, listed_most fails call)

-- after a call there is one fault more exactly where it was to fail
pub listed_after : (fails : List ℕ) (call : ℕ) → call < 2 ^ 64
    → listed_before (min (call + 1) (2 ^ 64 - 1)) fails
    ≡ listed_before call fails + (if is_listed fails call then 1 else 0)
listed_after fails call fits = at (nat_lt call (2 ^ 64 - 1)) refl where
  at : (b : Bool) → nat_lt call (2 ^ 64 - 1) ≡ b
      → listed_before (min (call + 1) (2 ^ 64 - 1)) fails
      ≡ listed_before call fails + (if is_listed fails call then 1 else 0)
  at true below =
      let less : call < 2 ^ 64 - 1 = ltb-true call (2 ^ 64 - 1) below in
      let next : min (call + 1) (2 ^ 64 - 1) ≡ suc call = omega arith in
      ap (λ n. listed_before n fails) next
  at false above =
      let most : 2 ^ 64 - 1 ≤ call = ltb-false call (2 ^ 64 - 1) above in
      let same : min (call + 1) (2 ^ 64 - 1) ≡ call = omega arith in
      let passes : is_listed fails call ≡ false =
      and_right (list_any (λ k. nat_eq k call) fails) _ above in
      let none : listed_before call fails ≡ listed_before call fails + (if is_listed fails call then 1 else 0) =
      rw passes (omega arith) in
      ap (λ n. listed_before n fails) same ∙ none

-- a later call has as many faults before it or more
pub listed_later : (fails : List ℕ) (call : ℕ) → call < 2 ^ 64
    → listed_before call fails ≤ listed_before (min (call + 1) (2 ^ 64 - 1)) fails
listed_later fails call fits = let next = listed_after fails call fits in omega (arith, next)

-- a call that is to fail lets the count rise
pub listed_rises : (fails : List ℕ) (call : ℕ) → call < 2 ^ 64 → IsTrue (is_listed fails call)
    → Rose (listed_before call fails) (listed_before (min (call + 1) (2 ^ 64 - 1)) fails)
listed_rises fails call fits listed =
    let next = listed_after fails call fits in
    inl (grind (arith, tests, next, listed))

-- a count that stands at 2^64 - 1 stays there
pub listed_stays : (fails : List ℕ) (call : ℕ) → call < 2 ^ 64 → listed_before call fails ≡ 2 ^ 64 - 1
    → listed_before (min (call + 1) (2 ^ 64 - 1)) fails ≡ 2 ^ 64 - 1
listed_stays fails call fits stands =
    let most = listed_most fails call in
    let same : min (call + 1) (2 ^ 64 - 1) ≡ call = omega (arith, most) in
    ap (λ n. listed_before n fails) same ∙ stands

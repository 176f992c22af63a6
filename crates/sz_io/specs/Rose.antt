-- The counts that a device keeps of its faults and of its memory refusals.
use Rattle.std.specs.Prelude.{ℕ, ◌+◌, ◌-◌, ◌^◌, ◌<◌, ◌≤◌, ◌≡◌, ◌⊎◌, min, Bool, true, false, IsTrue}

-- the count rose from `before` to `now`, or it stands at 2^64 - 1
abbrev pub Rose : ℕ → ℕ → Type 0
Rose before now = (before < now) ⊎ (now ≡ 2 ^ 64 - 1)

-- neither the count of faults nor that of memory refusals falls, and one that stands at 2^64 - 1 stays there
pub record DoNotFall {S : Type 0} (faults refusals : S → ℕ) (old new : S) : Type 0 where
  pub faults_later : faults old ≤ faults new
  pub faults_stay : faults old ≡ 2 ^ 64 - 1 → faults new ≡ 2 ^ 64 - 1
  pub refusals_later : refusals old ≤ refusals new
  pub refusals_stay : refusals old ≡ 2 ^ 64 - 1 → refusals new ≡ 2 ^ 64 - 1

-- the count of faults after a call: one more exactly where it failed, up to 2^64 - 1
abbrev pub faults_after : ℕ → Bool → ℕ
faults_after faults true = min (faults + 1) (2 ^ 64 - 1)
faults_after faults false = faults

-- The count of faults after a call that was made up to `tries` times, as signals interrupted it: it rose by the number of
-- errors, up to 2^64 - 1. Where the call failed, there was one.
pub record CountsErrors (tries before now : ℕ) (failed : Bool) : Type 0 where
  pub errors : ℕ
  pub counted : now ≡ min (before + errors) (2 ^ 64 - 1)
  pub some_if_failed : IsTrue failed → 1 ≤ errors
  pub at_most : errors ≤ tries

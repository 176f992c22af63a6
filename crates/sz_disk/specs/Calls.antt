-- What the calls of a disk do to its bytes, to what a crash may leave, and to what a crash since a time might have
-- left.
use Rattle.std.specs.Prelude.{◌≡◌, ◌⊎◌, ℕ, ◌+◌, ◌-◌, ◌^◌, ◌≤◌, List, [], ◌∷◌, ◌++◌, length, take, drop, Option, Some, None, ⊤}
use Rattle.std.specs.Option.{option_map}
use Rattle.sz_disk.specs.declared.span.Span.{Span}
use Rattle.sz_disk.specs.Crashes.{Torn, Images, untold, told, are_told, MayBe}

-- the bytes with these in the place of those from a place on
abbrev pub overwritten : ℕ → List ℕ → List ℕ → List ℕ
overwritten at written bytes = take at bytes ++ written ++ drop (at + length written) bytes

-- the same where the bytes are told
abbrev pub overwrites : ℕ → List ℕ → Option (List ℕ) → Option (List ℕ)
overwrites at written bytes = option_map (overwritten at written) bytes

-- the bytes that a read gives are torn in this span as a crash may tear them, where they are told
abbrev pub IsTorn : Span → Option (List ℕ) → Option (List ℕ) → Type 0
IsTorn span None new = new ≡ None
IsTorn span (Some old) None = ⊥
IsTorn span (Some old) (Some new) = Torn (span ∷ []) old new

-- a crash may leave what it might have left before, torn in this span
abbrev pub MayTear : Span → Images → Images → Type 0
MayTear span old new = (image : List ℕ) → MayBe new image
    → (before : List ℕ) × MayBe old before × Torn (span ∷ []) before image

-- a crash may leave nothing else than before
abbrev pub NoMore : Images → Images → Type 0
NoMore old new = (image : List ℕ) → MayBe new image → MayBe old image

-- Time goes on: a crash since a time that was there before might have left what it might have left before, and what
-- it may leave now, and nothing else. What is told stays told. The count of faults doesn't fall; where it stands at
-- 2^64 - 1, it stays.
pub record GoesOn {D : Type 0} (may_leave : D → Images) (time : D → ℕ) (left_since : D → ℕ → Images) (faults : D → ℕ)
    (old new : D) : Type 0 where
  pub later : time old ≤ time new
  pub nothing_else : (t : ℕ) (image : List ℕ) → t ≤ time old → MayBe (left_since new t) image
      → MayBe (left_since old t) image ⊎ MayBe (may_leave new) image
  pub nothing_lost : (t : ℕ) (image : List ℕ) → t ≤ time old → MayBe (left_since old t) image
      → MayBe (left_since new t) image
  pub told_now : are_told (may_leave new) ≡ are_told (may_leave old)
  pub told_since : (t : ℕ) → are_told (left_since new t) ≡ are_told (left_since old t)
  pub faults_later : faults old ≤ faults new
  pub faults_stay : faults old ≡ 2 ^ 64 - 1 → faults new ≡ 2 ^ 64 - 1

-- those images that are told may be among these others
abbrev pub AreAmong : Images → Images → Type 0
AreAmong untold others = ⊤
AreAmong (told images) others = (image : List ℕ) → images image → MayBe others image

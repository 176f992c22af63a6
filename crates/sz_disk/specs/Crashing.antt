-- A disk at rest, and what a crash during calls of a disk might have left.
use Rattle.std.specs.Prelude.{◌≡◌, ◌⊎◌, ℕ, ◌-◌, ◌^◌, ◌≤◌, List, Option, Some, ⊤}
use Rattle.sz_disk.specs.Crashes.{Images, untold, told, are_told, MayBe, IsTheImage}
use Rattle.sz_disk.specs.Calls.{NoMore}

-- a read gives these bytes, and a crash leaves them and nothing else, where that is told
pub record Rests (bytes : Option (List ℕ)) (may_leave : Images) (held : List ℕ) : Type 0 where
  pub read : bytes ≡ Some held
  pub only : IsTheImage may_leave held

-- each of the images has P, where they are told
abbrev pub AreAll : Images → (List ℕ → Type 0) → Type 0
AreAll untold P = ⊤
AreAll (told images) P = (image : List ℕ) → images image → P image

-- Each image that a crash from one moment to a later one might have left has P. A crash since a time before might
-- have left it, or what it might have left before, and nothing else.
pub record LeavesOnly {D : Type 0} (time : D → ℕ) (left_since : D → ℕ → Images) (old new : D)
    (P : List ℕ → Type 0) : Type 0 where
  pub later : time old ≤ time new
  pub each : AreAll (left_since new (time old)) P
  pub nothing_else : (t : ℕ) (image : List ℕ) → t ≤ time old → MayBe (left_since new t) image
      → MayBe (left_since old t) image ⊎ P image
  pub told_since : (t : ℕ) → are_told (left_since new t) ≡ are_told (left_since old t)

-- a count doesn't fall, and where it stands at 2^64 - 1, it stays
pub record DoesNotFall (before now : ℕ) : Type 0 where
  pub later : before ≤ now
  pub stays : before ≡ 2 ^ 64 - 1 → now ≡ 2 ^ 64 - 1

-- Nothing is written: a read gives what it gave, and a crash leaves nothing else than before.
pub record WritesNothing {D : Type 0} (bytes : D → Option (List ℕ)) (may_leave : D → Images) (time : D → ℕ)
    (left_since : D → ℕ → Images)
    (old new : D) : Type 0 where
  pub same : bytes new ≡ bytes old
  pub no_more : NoMore (may_leave old) (may_leave new)
  pub told_now : are_told (may_leave new) ≡ are_told (may_leave old)
  pub leaves : LeavesOnly time left_since old new (MayBe (may_leave old))

-- The first records that fault of two lists together.
use Rattle.std.specs.Prelude.{ℕ, zero, suc, List, [], ◌∷◌, Option, Some, None, nat_le, if◌then◌else◌}
use Rattle.sz_attempt.specs.declared.ends.Skipped.{Skipped}

-- the first of two lists that are in the order of the input, and what is left of each
abbrev pub next_of : List Skipped → List Skipped → Option (Skipped × List Skipped × List Skipped)
next_of [] [] = None
next_of (x ∷ xs) [] = Some (x, xs, [])
next_of [] (y ∷ ys) = Some (y, [], ys)
next_of (x ∷ xs) (y ∷ ys) = if nat_le x.record_no y.record_no then Some (x, xs, y ∷ ys) else Some (y, x ∷ xs, ys)

-- the first so many of both, in the order of the input
abbrev pub merged : ℕ → List Skipped → List Skipped → List Skipped
merged zero xs ys = []
merged (suc n) [] [] = []
merged (suc n) (x ∷ xs) [] = x ∷ merged n xs []
merged (suc n) [] (y ∷ ys) = y ∷ merged n [] ys
merged (suc n) (x ∷ xs) (y ∷ ys) =
    if nat_le x.record_no y.record_no then x ∷ merged n xs (y ∷ ys) else y ∷ merged n (x ∷ xs) ys

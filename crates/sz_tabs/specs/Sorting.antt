-- Lists in order, by any order of their elements.
use Rattle.std.specs.Prelude.{if◌then◌else◌, List, [], ◌∷◌}
use Rattle.std.specs.Ordering.{is_gt, eq_by_cmp}
use Rattle.std.specs.List.{dedup}
use Rattle.std.specs.declared.cmp.Ordering.{Ordering}

-- the list with one element more, in front of the first that isn't less
abbrev pub inserted : {X : Type 0} → (X → X → Ordering) → X → List X → List X
inserted cmp x [] = x ∷ []
inserted cmp x (y ∷ ys) = if is_gt (cmp x y) then y ∷ inserted cmp x ys else x ∷ y ∷ ys

-- the elements in ascending order
abbrev pub sorted : {X : Type 0} → (X → X → Ordering) → List X → List X
sorted cmp [] = []
sorted cmp (x ∷ xs) = inserted cmp x (sorted cmp xs)

-- the distinct elements in ascending order
abbrev pub distinct : {X : Type 0} → (X → X → Ordering) → List X → List X
distinct cmp xs = dedup (eq_by_cmp cmp) (sorted cmp xs)

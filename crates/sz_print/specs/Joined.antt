-- Texts with a comma and a blank between them.
use Rattle.std.specs.Prelude.{ℕ, zero, suc, List, [], ◌∷◌, ◌++◌, codes}
use Rattle.std.specs.List.{flat_map}

-- what stands in front of the text at a place
abbrev pub comma_before : ℕ → List ℕ
comma_before zero = []
comma_before (suc at) = codes ", "

-- the text of each element, with a comma and a blank between them
abbrev pub joined : {X : Type 0} → (X → List ℕ) → List X → List ℕ
joined text [] = []
joined text (x ∷ xs) = text x ++ flat_map (λ y. codes ", " ++ text y) xs

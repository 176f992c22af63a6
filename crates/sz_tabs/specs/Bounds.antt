-- Sums that are added up, and how far they are from 0, so that they fit 128 bits.
use Rattle.std.specs.Prelude.{ℕ, zero, suc, ℤ, pos, neg_ℤ, ◌≤ℤ◌, ◌+ℤ◌, List, [], ◌∷◌}

-- the number is at most this far from 0
pub record IsWithin (most : ℕ) (number : ℤ) : Type 0 where
  pub low : neg_ℤ (pos most) ≤ℤ number
  pub high : number ≤ℤ pos most

-- each number is at most this far from 0
abbrev pub AreWithin : ℕ → List ℤ → Type 0
AreWithin most [] = Unit {0}
AreWithin most (n ∷ ns) = IsWithin most n × AreWithin most ns

-- the numbers with one more added to that at a place, or after the last one
abbrev pub added_at : ℕ → ℤ → List ℤ → List ℤ
added_at at n [] = n ∷ []
added_at zero n (m ∷ ms) = (m +ℤ n) ∷ ms
added_at (suc at) n (m ∷ ms) = m ∷ added_at at n ms

-- What a disk holds while bytes are written behind a gate, and this gate is opened.
use Rattle.std.specs.Prelude.{◌≡◌, ◌⊎◌, ℕ, List, ◌∷◌, ◌++◌}

-- the gate stands behind these bytes
pub record HasGate (front : List ℕ) (gate : ℕ) (image : List ℕ) : Type 0 where
  pub behind : List ℕ
  pub is : image ≡ front ++ gate ∷ behind

-- some gate stands behind these bytes, and what was written behind it
pub record HasWritten (front written image : List ℕ) : Type 0 where
  pub gate : ℕ
  pub behind : List ℕ
  pub is : image ≡ front ++ gate ∷ (written ++ behind)

-- the gate is as it was, or what was written stands behind it, whatever the gate is
abbrev pub IsBeforeOrBehind : List ℕ → ℕ → List ℕ → List ℕ → Type 0
IsBeforeOrBehind front gate written image = HasGate front gate image ⊎ HasWritten front written image

-- The rounds that a list for proofs alone has.
use Rattle.std.specs.Prelude.{List, map}

-- the first parts of pairs
abbrev pub logged : {A B : Type 0} → List (A × B) → List A
logged pairs = map (λ pair. pair.0) pairs

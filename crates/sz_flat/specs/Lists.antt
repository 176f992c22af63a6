-- A list of values that is kept flat: the bytes that spell its values, one after the other.
use Rattle.std.specs.Prelude.{◌≡◌, ℕ, Bool, List, [], ◌∷◌}
use Rattle.std.specs.Cmp.Lexicographic.{slice_cmp}
use Rattle.std.specs.Hash.{HashWrites}
use Rattle.std.specs.Ordering.{eq_by_cmp}
use Rattle.sz_value.specs.Data.{Datum, data_of}
use Rattle.sz_value.specs.Order.{compare}
use Rattle.sz_flat.specs.Spelling.{spelled_parts, HaveSpellings}

-- the bytes spell the values, one after the other
pub record SpellsAll (flat : List ℕ) (values : List Datum) : Type 0 where
  pub spelled : HaveSpellings (data_of values)
  pub is : flat ≡ spelled_parts (data_of values)

-- the bytes spell no list
abbrev pub SpellNone : List ℕ → Type 0
SpellNone flat = (values : List Datum) → SpellsAll flat values → ⊥

-- the values that the bytes spell
abbrev pub Spelled : List ℕ → Type 0
Spelled flat = (values : List Datum) × ∥ SpellsAll flat values ∥₁

-- whether two lists have the same values
abbrev pub same_values : List Datum → List Datum → Bool
same_values = eq_by_cmp (slice_cmp compare)

-- what a hasher is fed of a list: the bytes that spell it, in one piece
abbrev pub list_writes : List Datum → HashWrites
list_writes values = spelled_parts (data_of values) ∷ []

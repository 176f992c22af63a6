-- Plain data: what contracts see of a value.
use Rattle.std.specs.Prelude.{Bool, ℕ, ℤ, List, [], ◌∷◌}

mutual
  -- a value as plain data
  pub data Datum : Type 0 where
    truth : Bool → Datum
    int : ℤ → Datum
    time : ℤ → Datum
    str : List ℕ → Datum
    bytes : List ℕ → Datum
    array : Data → Datum
    tuple : Data → Datum
    mapping : Entries → Datum

  -- the parts of an array or a tuple, in order
  pub data Data : Type 0 where
    no_data : Data
    datum : Datum → Data → Data

  -- the pairs of a map, in order: a key, its value, and the further pairs
  pub data Entries : Type 0 where
    no_entries : Entries
    entry : Datum → Datum → Entries → Entries

-- the parts that a list holds
abbrev pub data_of : List Datum → Data
data_of [] = no_data
data_of (d ∷ ds) = datum d (data_of ds)

-- the pairs that a list holds
abbrev pub entries_of : List (Datum × Datum) → Entries
entries_of [] = no_entries
entries_of (p ∷ ps) = entry p.0 p.1 (entries_of ps)

-- the parts as a list
abbrev pub parts_of : Data → List Datum
parts_of no_data = []
parts_of (datum d ds) = d ∷ parts_of ds

-- the pairs as a list
abbrev pub pairs_of : Entries → List (Datum × Datum)
pairs_of no_entries = []
pairs_of (entry k v es) = (k, v) ∷ pairs_of es

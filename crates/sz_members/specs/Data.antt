-- What contracts see of an aggregator of members.
use Rattle.std.specs.Prelude.{◌≡◌, ◌≤◌, ◌+◌, ℕ, None, List, [], ◌∷◌, ◌++◌, length, replicate}
use Rattle.sz_types.specs.Tables.{Declaration}
use Rattle.sz_value.specs.Data.{Datum}
use Rattle.sz_tabs.specs.Data.{Weighted, RowDatum}
use Rattle.sz_tabs.specs.Rows.{rows_of}

-- a table's declaration, the number of the emits to it under one index list, the values that are kept with how often
-- each came, in any order, and for how many there is room
pub record Counted : Type 0 where
  pub table : Declaration
  pub count : ℕ
  pub kept : List (Datum × ℕ)
  pub room : ℕ

-- so many emits of the value
abbrev pub times : ℕ → Datum → List Weighted
times n value = replicate n (record { value = value; weight = None })

-- emits of each value, as many as it has repeats
abbrev pub emits_of : List (Datum × ℕ) → List Weighted
emits_of [] = []
emits_of (p ∷ ps) = times p.1 p.0 ++ emits_of ps

-- the rows of the emits that are kept
abbrev pub rows_of_members : Counted → List RowDatum
rows_of_members m = rows_of m.table (emits_of m.kept)

-- there is room for the values of both
abbrev pub HasRoomFor : Counted → Counted → Type 0
HasRoomFor m other = length m.kept + length other.kept ≤ m.room

-- nothing changed but the room
pub record ChangesRoomAlone (old new : Counted) : Type 0 where
  pub table : new.table ≡ old.table
  pub count : new.count ≡ old.count
  pub kept : new.kept ≡ old.kept

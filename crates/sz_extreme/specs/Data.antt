-- What contracts see of an aggregator of extremes.
use Rattle.std.specs.Prelude.{◌≡◌, ◌≤◌, ◌+◌, ℕ, List, length}
use Rattle.sz_types.specs.Tables.{Declaration}
use Rattle.sz_tabs.specs.Data.{Weighted, RowDatum}
use Rattle.sz_tabs.specs.Rows.{rows_of}

-- a table's declaration, the number of the emits to it under one index list, those of them that are kept, in any
-- order, and for how many there is room
pub record Extremes : Type 0 where
  pub table : Declaration
  pub count : ℕ
  pub kept : List Weighted
  pub room : ℕ

-- the rows of the emits that are kept
abbrev pub rows_of_extremes : Extremes → List RowDatum
rows_of_extremes e = rows_of e.table e.kept

-- there is room for what both keep
abbrev pub HasRoomFor : Extremes → Extremes → Type 0
HasRoomFor e other = length e.kept + length other.kept ≤ e.room

-- nothing changed but the room
pub record ChangesRoomAlone (old new : Extremes) : Type 0 where
  pub table : new.table ≡ old.table
  pub count : new.count ≡ old.count
  pub kept : new.kept ≡ old.kept

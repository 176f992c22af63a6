-- What the tables of a program stand for, and what their calls do to that.
use Rattle.std.specs.Prelude.{◌≡◌, ℕ, ◌+◌, Some, List, [], ◌∷◌, ◌++◌, length, slice_get}
use Rattle.sz_types.specs.Tables.{Declaration}
use Rattle.sz_tabs.specs.Data.{EmitDatum}
use Rattle.sz_total.specs.Tables.{Indexed, table_rows}

-- A type of tables, by what is known of each: the declarations, the number of emits, and the rows of the table with a
-- number.
module _ {S : Type 0} (declarations : S → List Declaration) (count : S → ℕ) (shown : S → ℕ → List Indexed) where
  -- The tables stand for the list of emits: each has the rows of the list, and the number of emits is the list's
  -- length.
  pub record StandsFor (s : S) (emits : List EmitDatum) : Type 0 where
    pub rows : (table : ℕ) (declaration : Declaration) → slice_get (declarations s) table ≡ Some declaration
        → shown s table ≡ table_rows table declaration emits
    pub counted : count s ≡ length emits

  -- The tables are new ones with these declarations: they stand for the empty list.
  pub record IsNew (declared : List Declaration) (s : S) : Type 0 where
    pub same_tables : declarations s ≡ declared
    pub empty : StandsFor s []

  -- The new tables stand for each list that the old ones stand for, with this emit after it.
  pub record Gains (old new : S) (emit : EmitDatum) : Type 0 where
    pub same_tables : declarations new ≡ declarations old
    pub one_more : count new ≡ count old + 1
    pub appended : (emits : List EmitDatum) → StandsFor old emits → StandsFor new (emits ++ emit ∷ [])

  -- The new tables stand for each list that the old ones stand for, joined with each that the others stand for.
  pub record Joins (old other new : S) : Type 0 where
    pub same_tables : declarations new ≡ declarations old
    pub both_counts : count new ≡ count old + count other
    pub joined : (front later : List EmitDatum) → StandsFor old front → StandsFor other later
        → StandsFor new (front ++ later)

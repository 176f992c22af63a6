-- What an aggregator stands for, and what its calls do to that.
use Rattle.std.specs.Prelude.{◌≡◌, ℕ, ℤ, ◌+◌, Option, List, [], ◌∷◌, ◌++◌, length}
use Rattle.sz_types.specs.Tables.{Declaration}
use Rattle.sz_value.specs.Data.{Datum}
use Rattle.sz_tabs.specs.Data.{Weighted, RowDatum}
use Rattle.sz_tabs.specs.Rows.{rows_of}

-- this value with this weight
abbrev pub weighted : Datum → Option ℤ → Weighted
weighted value weight = record { value = value; weight = weight }

-- A type of aggregators, by what is known of each: its table, its number of emits, and the rows that it shows.
module _ {S : Type 0} (declaration : S → Declaration) (count : S → ℕ) (shown : S → List RowDatum) where
  -- The aggregator stands for the list of emits: its rows are those of the list, and its number of emits is the
  -- list's length.
  pub record StandsFor (s : S) (emits : List Weighted) : Type 0 where
    pub rows : shown s ≡ rows_of (declaration s) emits
    pub counted : count s ≡ length emits

  -- The aggregator is a new one of the table: it stands for the empty list.
  pub record IsNew (table : Declaration) (s : S) : Type 0 where
    pub declared : declaration s ≡ table
    pub empty : StandsFor s []

  -- The new aggregator stands for each list that the old one stands for, with this emit after it.
  pub record Gains (old new : S) (emit : Weighted) : Type 0 where
    pub same_table : declaration new ≡ declaration old
    pub one_more : count new ≡ count old + 1
    pub appended : (emits : List Weighted) → StandsFor old emits → StandsFor new (emits ++ emit ∷ [])

  -- The new aggregator stands for each list that the old one stands for, joined with each that the other stands for.
  pub record Joins (old other new : S) : Type 0 where
    pub same_table : declaration new ≡ declaration old
    pub both_counts : count new ≡ count old + count other
    pub joined : (front later : List Weighted) → StandsFor old front → StandsFor other later
        → StandsFor new (front ++ later)

-- What is known of rows once their values were spelled, and what that asks for.
use Rattle.std.specs.Prelude.{ℕ, ℤ, ⊤, IfSome, List, length}
use Rattle.std.specs.Int.{w64}
use Rattle.std.specs.Int.RustNames.{FitsSigned}
use Rattle.std.specs.List.{AllByRecursion}
use Rattle.sz_value.specs.Data.{Datum}
use Rattle.sz_flat.specs.Spelling.{spelling, HasSpelling}
use Rattle.sz_tabs.specs.Data.{Shown, one, RowDatum}
use Rattle.sz_total.specs.Bounded.{SumsAreWithin}
use Rattle.sz_total.specs.Tables.{Indexed}
use Rattle.sz_save_format.specs.Entries.{IsCount}

-- the value can be spelled, and so can the number of its bytes
pub record IsSpelled (value : Datum) : Type 0 where
  pub has : HasSpelling value
  pub long : IsCount (length (spelling value))

-- a value that is shown can be spelled so
abbrev pub ShowsSpelled : Shown → Type 0
ShowsSpelled (one value) = IsSpelled value
ShowsSpelled _ = ⊤

-- a weight has 64 bits
abbrev pub IsSpelledWeight : ℤ → Type 0
IsSpelledWeight weight = FitsSigned w64 weight

-- the same of a row
pub record IsSpelledRow (row : RowDatum) : Type 0 where
  pub shown : ShowsSpelled row.shown
  pub weight : IfSome row.weight IsSpelledWeight

-- the same of an index list and the rows under it, and their number can be spelled
pub record IsSpelledEntry (entry : Indexed) : Type 0 where
  pub indexes : AllByRecursion IsSpelled entry.indexes
  pub few : IsCount (length entry.rows)
  pub rows : AllByRecursion IsSpelledRow entry.rows

-- the same of all index lists of a table
pub record AreSpelled (entries : List Indexed) : Type 0 where
  pub few : IsCount (length entries)
  pub each : AllByRecursion IsSpelledEntry entries

-- what a table shows can be spelled, and no sum in it is further from 0 than this
pub record CanBeWritten (most : ℕ) (entries : List Indexed) : Type 0 where
  pub spelled : AreSpelled entries
  pub within : SumsAreWithin most entries

-- Laws of the definitions, in words of lists and sets.
use Rattle.std.specs.Prelude.{◌≡◌, List, ◌++◌, Contains, IsPermutation, IsSorted}
use Rattle.std.specs.List.Sorted.{IsStrictlySortedBy}
use Rattle.std.specs.declared.cmp.Ordering.{Ordering}
use Rattle.sz_types.specs.Tables.{Declaration}
use Rattle.sz_value.specs.Data.{Datum}
use Rattle.sz_value.specs.Order.{compare}
use Rattle.sz_tabs.specs.Data.{Weighted}
use Rattle.sz_tabs.specs.Sorting.{sorted}
use Rattle.sz_tabs.specs.Rows.{rows_of}

-- a sorted list has the elements of the list, in order
pub record Sorts {X : Type 0} (cmp : X → X → Ordering) (xs : List X) : Type 0 where
  pub in_order : IsSorted cmp (sorted cmp xs)
  pub same_elements : IsPermutation xs (sorted cmp xs)

-- the distinct values rise, each value is among them, and no other is
pub record IsSetOf (values : List Datum) (distinct_values : List Datum) : Type 0 where
  pub rises : IsStrictlySortedBy compare distinct_values
  pub has_each : (value : Datum) → Contains values value → Contains distinct_values value
  pub has_no_other : (value : Datum) → Contains distinct_values value → Contains values value

-- what was brought has the same rows in any order
abbrev pub ForgetsOrder : Type 0
ForgetsOrder = (table : Declaration) (first second : List Weighted) → IsPermutation first second
    → rows_of table first ≡ rows_of table second

-- lists with the same rows still have the same rows after the same further emits
abbrev pub DecidedByRows : Type 0
DecidedByRows =
    (table : Declaration) (front other later : List Weighted) → rows_of table front ≡ rows_of table other
    → rows_of table (front ++ later) ≡ rows_of table (other ++ later)

-- joined lists have the rows that lists with the same rows have, joined
abbrev pub JoinedByRows : Type 0
JoinedByRows =
    (table : Declaration) (front other later beyond : List Weighted) → rows_of table front ≡ rows_of table other
    → rows_of table later ≡ rows_of table beyond → rows_of table (front ++ later) ≡ rows_of table (other ++ beyond)

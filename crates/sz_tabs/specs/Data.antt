-- Plain data: what contracts see of emits and of rows.
use Rattle.std.specs.Prelude.{ℕ, ℤ, List, Option}
use Rattle.sz_value.specs.Data.{Datum}

-- one emit: the number of its table, counted from 0, its index list, its value, and its weight, if it has one
pub record EmitDatum : Type 0 where
  pub table : ℕ
  pub indexes : List Datum
  pub value : Datum
  pub weight : Option ℤ

-- what an emit brings to its table under its index list: its value, and its weight, if it has one
pub record Weighted : Type 0 where
  pub value : Datum
  pub weight : Option ℤ

-- what a row shows: a value, sums by component, or that there are too many values for its set
pub data Shown : Type 0 where
  one : (value : Datum) → Shown
  sums : (numbers : List ℤ) → Shown
  overflow : Shown

-- one row, and its weight, if its table has weights
pub record RowDatum : Type 0 where
  pub shown : Shown
  pub weight : Option ℤ

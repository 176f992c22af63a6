-- A declared table with what was brought to it under one index list: what contracts see of a plain aggregator.
use Rattle.std.specs.Prelude.{List}
use Rattle.sz_types.specs.Tables.{Declaration}
use Rattle.sz_tabs.specs.Data.{Weighted}

-- the declaration, and the emits in the order in which they came
pub record Listing : Type 0 where
  pub table : Declaration
  pub emits : List Weighted

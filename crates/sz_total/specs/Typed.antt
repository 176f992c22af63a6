-- Which rows fit their tables.
use Rattle.std.specs.Prelude.{◌≡◌, ◌&&◌, ⊤, ℕ, Bool, true, false, Some, is_some, All, length, slice_get}
use Rattle.sz_types.specs.Tables.{Declaration}
use Rattle.sz_types.specs.declared.table.TableKind.{TableKind}
use Rattle.sz_types.specs.declared.table.TableKind.TheVariants as kinds
use Rattle.sz_types.specs.Types.{has_type, have_types}
use Rattle.sz_value.specs.Data.{data_of}
use Rattle.sz_flat.specs.Spelling.{HasShortLengths, HaveShortLengths}
use Rattle.sz_tabs.specs.Data.{Shown, one, sums, overflow, RowDatum}
use Rattle.sz_sum.specs.Data.{width}
use Rattle.sz_total.specs.Weights.{ranks}
use Rattle.sz_total.specs.Origin.{ComesFromEmits}
use Rattle.sz_total.specs.States.{TotalState, shown}
use Rattle.sz_total.specs.Tables.{Indexed}

-- whether a table of this kind may show this: sums in one of sums, that there are too many values in one of sets, and
-- else a value
abbrev pub may_show : TableKind → Shown → Bool
may_show kinds.Sum (sums numbers) = true
may_show kinds.Maximum (one value) = true
may_show kinds.Minimum (one value) = true
may_show kinds.Set (one value) = true
may_show kinds.Set overflow = true
may_show kinds.Collection (one value) = true
may_show _ _ = false

-- a value has the table's element type and short lengths, and there are as many sums as that type has components
abbrev pub FitsShown : Declaration → Shown → Type 0
FitsShown table (one value) = (has_type value table.element ≡ true) × HasShortLengths value
FitsShown table (sums numbers) = length numbers ≡ width table.element
FitsShown table overflow = ⊤

-- the row shows what its table may show, it fits the element type, and there is a weight just where the table ranks
-- by weights that it has
pub record FitsRow (table : Declaration) (row : RowDatum) : Type 0 where
  pub kind : may_show table.kind row.shown ≡ true
  pub element : FitsShown table row.shown
  pub weight : is_some row.weight ≡ (ranks table.kind && is_some table.weight)

-- the index list has the table's index types in order and short lengths, and each row under it fits the table
pub record FitsTable (table : Declaration) (indexed : Indexed) : Type 0 where
  pub indexes : have_types indexed.indexes table.indexes ≡ true
  pub short : HaveShortLengths (data_of indexed.indexes)
  pub rows : All (FitsRow table) indexed.rows

-- what each table shows fits it
abbrev pub ShowsWhatFits : TotalState → Type 0
ShowsWhatFits total =
    (number : ℕ) (table : Declaration) → slice_get total.tables number ≡ Some table
    → All (FitsTable table) (shown total number)

-- what comes from emits that fit, fits
abbrev pub FitsAsItsEmits : Type 0
FitsAsItsEmits = (total : TotalState) → ComesFromEmits total → ShowsWhatFits total

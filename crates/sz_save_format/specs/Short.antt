-- What has short lengths, so that its values can be written.
use Rattle.std.specs.Prelude.{⊤, All}
use Rattle.sz_value.specs.Data.{data_of}
use Rattle.sz_flat.specs.Spelling.{HasShortLengths, HaveShortLengths}
use Rattle.sz_tabs.specs.Data.{Shown, one, RowDatum}
use Rattle.sz_total.specs.Tables.{Indexed}

-- where a value is shown its lengths are short
abbrev pub ShowsShort : Shown → Type 0
ShowsShort (one value) = HasShortLengths value
ShowsShort _ = ⊤

abbrev pub HasShortRow : RowDatum → Type 0
HasShortRow row = ShowsShort row.shown

-- the indexes and the values in the rows have short lengths
pub record HasShortEntry (entry : Indexed) : Type 0 where
  pub indexes : HaveShortLengths (data_of entry.indexes)
  pub rows : All HasShortRow entry.rows

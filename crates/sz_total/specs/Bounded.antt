-- How far the sums that tables show are from 0.
use Rattle.std.specs.Prelude.{⊤, ℕ, List, All}
use Rattle.sz_tabs.specs.Bounds.{AreWithin}
use Rattle.sz_tabs.specs.Data.{Shown, sums, RowDatum}
use Rattle.sz_total.specs.Tables.{Indexed}

-- where sums are shown, each is at most this far from 0
abbrev pub IsShownWithin : ℕ → Shown → Type 0
IsShownWithin most (sums numbers) = AreWithin most numbers
IsShownWithin most _ = ⊤

-- the same of each row
abbrev pub RowsAreWithin : ℕ → List RowDatum → Type 0
RowsAreWithin most rows = All (λ (row : RowDatum). IsShownWithin most row.shown) rows

-- the same of the rows under each index list
abbrev pub SumsAreWithin : ℕ → List Indexed → Type 0
SumsAreWithin most shown = All (λ (indexed : Indexed). RowsAreWithin most indexed.rows) shown

-- What contracts see of what a row shows.
use Rattle.sz_value.specs.Seen.{seen}
use Rattle.sz_tabs.specs.Data.{Shown, one, sums, overflow}
use Rattle.sz_tabs.specs.declared.row.RowValue.{RowValue}
use Rattle.sz_tabs.specs.declared.row.RowValue.TheVariants.{One, Sums, Overflow}

-- the plain data of what a row shows
abbrev pub seen_shown : RowValue → Shown
seen_shown (One value) = one (seen value)
seen_shown (Sums numbers) = sums numbers
seen_shown Overflow = overflow

-- The walk over the index lists of both sides, and what it asks of their sums.
use Rattle.std.specs.Prelude.{◌≡◌, ℕ, ◌+◌, ◌<◌, ◌≤◌, ◌^◌, ⊤, Option, Some, None, List, [], ◌∷◌, length, map}
use Rattle.std.specs.List.{AllByRecursion}
use Rattle.std.specs.Ordering.{match_ordering}
use Rattle.std.specs.declared.cmp.Ordering.{Ordering}
use Rattle.std.specs.declared.cmp.Ordering.TheVariants.{Less, Greater}
use Rattle.sz_types.specs.Tables.{Declaration}
use Rattle.sz_types.specs.declared.table.TableKind.{TableKind}
use Rattle.sz_types.specs.declared.table.TableKind.TheVariants.{Sum, Maximum, Minimum, Set, Collection}
use Rattle.sz_value.specs.Data.{Datum}
use Rattle.sz_tabs.specs.Bounds.{AreWithin}
use Rattle.sz_tabs.specs.Data.{RowDatum}
use Rattle.sz_tabs.specs.Rows.{compare_indexes}
use Rattle.sz_total.specs.Tables.{Indexed}
use Rattle.sz_save_format.specs.Entries.{IsCount}
use Rattle.sz_save.specs.Joined.{sums_in, joined_rows}

-- an index list with the rows of both sides
abbrev pub joined_entry : TableKind → ℕ → List Datum → List RowDatum → List RowDatum → Indexed
joined_entry kind limit indexes rows others = record { indexes = indexes; rows = joined_rows kind limit rows others }

-- an index list that the other side hasn't, and one that the other side alone has
abbrev pub alone : TableKind → ℕ → Indexed → Indexed
alone kind limit entry = joined_entry kind limit entry.indexes entry.rows []

abbrev pub other_alone : TableKind → ℕ → Indexed → Indexed
other_alone kind limit other = joined_entry kind limit other.indexes [] other.rows

-- an index list and those of the other side in ascending order, where `rest` joins what stands behind it
abbrev pub against : TableKind → ℕ → Indexed → (List Indexed → List Indexed) → List Indexed → List Indexed
against kind limit entry rest [] = alone kind limit entry ∷ rest []
against kind limit entry rest (other ∷ others) =
    match_ordering (compare_indexes entry.indexes other.indexes) (alone kind limit entry ∷ rest (other ∷ others))
    (joined_entry kind limit entry.indexes entry.rows other.rows ∷ rest others)
    (other_alone kind limit other ∷ against kind limit entry rest others)

-- the index lists of both sides in ascending order, each with the rows of both
unfoldable pub joined_entries : TableKind → ℕ → List Indexed → List Indexed → List Indexed
joined_entries kind limit [] others = map (other_alone kind limit) others
joined_entries kind limit (entry ∷ entries) others = against kind limit entry (joined_entries kind limit entries) others

-- how the first index lists of both sides compare, where one that isn't there is greater
abbrev pub compare_firsts : List Indexed → List Indexed → Option Ordering
compare_firsts [] [] = None
compare_firsts (e ∷ es) [] = Some Less
compare_firsts [] (o ∷ os) = Some Greater
compare_firsts (e ∷ es) (o ∷ os) = Some (compare_indexes e.indexes o.indexes)

-- the tables of both sides, one by one
abbrev pub joined_tables : List Declaration → List (List Indexed) → List (List Indexed) → List (List Indexed)
joined_tables (d ∷ ds) (t ∷ ts) (u ∷ us) = joined_entries d.kind d.limit t u ∷ joined_tables ds ts us
joined_tables _ _ _ = []

-- the row has `count` sums, none of them further from 0 than `most`
pub record HasSum (count most : ℕ) (row : RowDatum) : Type 0 where
  pub long : length (sums_in row.shown) ≡ count
  pub within : AreWithin most (sums_in row.shown)

-- the sums of both sides can be added: each row has equally many, and what they come to is no further from 0 than 2^126
pub record CanAdd (rows others : List RowDatum) : Type 0 where
  pub count : ℕ
  pub most : ℕ
  pub others_most : ℕ
  pub low : most + others_most ≤ 2 ^ 126
  pub each : AllByRecursion (HasSum count most) rows
  pub each_other : AllByRecursion (HasSum count others_most) others

-- the same of the rows of a kind of table
abbrev pub RowsCanJoin : TableKind → List RowDatum → List RowDatum → Type 0
RowsCanJoin Sum rows others = CanAdd rows others
RowsCanJoin Maximum rows others = ⊤
RowsCanJoin Minimum rows others = ⊤
RowsCanJoin Set rows others = ⊤
RowsCanJoin Collection rows others = ⊤

-- each of the rows under the index list has `count` sums, none of them further from 0 than `most`
abbrev pub HasSums : ℕ → ℕ → Indexed → Type 0
HasSums count most entry = AllByRecursion (HasSum count most) entry.rows

-- the sums under all index lists of both sides can be added
pub record CanAddAll (entries others : List Indexed) : Type 0 where
  pub count : ℕ
  pub most : ℕ
  pub others_most : ℕ
  pub low : most + others_most ≤ 2 ^ 126
  pub each : AllByRecursion (HasSums count most) entries
  pub each_other : AllByRecursion (HasSums count others_most) others

-- the index lists of both sides of a kind of table can be joined: sums can be added, and of other kinds nothing is
-- asked
abbrev pub CanJoin : TableKind → List Indexed → List Indexed → Type 0
CanJoin Sum entries others = CanAddAll entries others
CanJoin Maximum entries others = ⊤
CanJoin Minimum entries others = ⊤
CanJoin Set entries others = ⊤
CanJoin Collection entries others = ⊤

-- the number of the rows under the index list can be spelled
abbrev pub HasCountedRows : Indexed → Type 0
HasCountedRows entry = IsCount (length entry.rows)

-- the same under each of a table's index lists, and their number can be spelled too
abbrev pub AreCounted : List Indexed → Type 0
AreCounted entries = IsCount (length entries) × AllByRecursion HasCountedRows entries

-- the first index list of both sides is this one, and these are left behind it on either side
pub record Steps (kind : TableKind) (limit : ℕ) (entries others : List Indexed) (entry : Indexed)
    (after left : List Indexed) : Type 0 where
  pub is : joined_entries kind limit entries others ≡ entry ∷ joined_entries kind limit after left
  pub shorter : length after + length left < length entries + length others
  pub can : CanJoin kind after left
  pub few : HasCountedRows entry

-- the tables of both sides can be joined, one by one
abbrev pub CanJoinAll : List Declaration → List (List Indexed) → List (List Indexed) → Type 0
CanJoinAll (d ∷ ds) (t ∷ ts) (u ∷ us) = CanJoin d.kind t u × CanJoinAll ds ts us
CanJoinAll _ _ _ = ⊤

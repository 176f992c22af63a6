-- Which rows a list of emits has, for each kind of table.
use Rattle.std.specs.Prelude.{ℕ, ℤ, pos, ◌+ℤ◌, ◌&&◌, Bool, if◌then◌else◌, nat_eq, nat_lt, None, List, [], ◌∷◌, length, map, take, filter}
use Rattle.std.specs.Ordering.{int_cmp, then_cmp, on, flip_args, is_eq}
use Rattle.std.specs.Option.{option_cmp}
use Rattle.std.specs.Cmp.Lexicographic.{slice_cmp}
use Rattle.std.specs.declared.cmp.Ordering.{Ordering}
use Rattle.sz_types.specs.Tables.{Declaration}
use Rattle.sz_types.specs.declared.table.TableKind.{TableKind}
use Rattle.sz_types.specs.declared.table.TableKind.TheVariants.{Sum, Maximum, Minimum, Set, Collection}
use Rattle.sz_value.specs.Data.{Datum, int, tuple, parts_of}
use Rattle.sz_value.specs.Order.{compare}
use Rattle.sz_tabs.specs.Data.{EmitDatum, Weighted, one, sums, overflow, RowDatum}
use Rattle.sz_tabs.specs.Sorting.{sorted, distinct}

-- how two index lists compare: by the first indexes that differ
abbrev pub compare_indexes : List Datum → List Datum → Ordering
compare_indexes = slice_cmp compare

-- whether an emit went to this table under this index list
abbrev pub went_to : ℕ → List Datum → EmitDatum → Bool
went_to table indexes e = nat_eq e.table table && is_eq (compare_indexes e.indexes indexes)

-- what an emit brings, whichever table it goes to
abbrev pub brought_by : EmitDatum → Weighted
brought_by e = record { value = e.value; weight = e.weight }

-- what the emits to this table under this index list bring, in their order
abbrev pub brought_to : ℕ → List Datum → List EmitDatum → List Weighted
brought_to table indexes emits = map brought_by (filter (went_to table indexes) emits)

-- the values without their weights
abbrev pub values_of : List Weighted → List Datum
values_of brought = map (λ (w : Weighted). w.value) brought

-- the number that a value is, 0 where it is none
abbrev pub number_of : Datum → ℤ
number_of (int n) = n
number_of _ = pos 0

-- the components of a value that can be summed: a number is one, and a tuple has one for each part
abbrev pub components_of : Datum → List ℤ
components_of (int n) = n ∷ []
components_of (tuple parts) = map number_of (parts_of parts)
components_of _ = []

-- the sum by component, where a component that is missing counts as 0
abbrev pub plus : List ℤ → List ℤ → List ℤ
plus [] ns = ns
plus (m ∷ ms) [] = m ∷ ms
plus (m ∷ ms) (n ∷ ns) = (m +ℤ n) ∷ plus ms ns

-- the sum of all values, by component
abbrev pub sums_of : List Datum → List ℤ
sums_of [] = []
sums_of (v ∷ vs) = plus (components_of v) (sums_of vs)

-- the least weight first, and of equal weights the lesser value
abbrev pub least_first : Weighted → Weighted → Ordering
least_first = then_cmp (on (λ w. w.weight) (option_cmp int_cmp)) (on (λ w. w.value) compare)

-- the greatest weight first, and of equal weights the lesser value
abbrev pub greatest_first : Weighted → Weighted → Ordering
greatest_first = then_cmp (on (λ w. w.weight) (flip_args (option_cmp int_cmp))) (on (λ w. w.value) compare)

-- a value as a row
abbrev pub value_row : Datum → RowDatum
value_row value = record { shown = one value; weight = None }

-- a value with its weight as a row
abbrev pub weighted_row : Weighted → RowDatum
weighted_row w = record { shown = one w.value; weight = w.weight }

-- the row of sums, if there is a value
abbrev pub sum_rows : List Datum → List RowDatum
sum_rows [] = []
sum_rows (v ∷ vs) = record { shown = sums (sums_of (v ∷ vs)); weight = None } ∷ []

-- the row of a set that has more values than it can hold
abbrev pub overflow_row : RowDatum
overflow_row = record { shown = overflow; weight = None }

-- a row for each of these distinct values, or one for all where there are more than the limit
abbrev pub set_rows : ℕ → List Datum → List RowDatum
set_rows limit values = if nat_lt limit (length values) then overflow_row ∷ [] else map value_row values

-- the rows of a table of a kind and a limit, of what was brought to it under one index list
abbrev pub rows_by : TableKind → ℕ → List Weighted → List RowDatum
rows_by Sum limit brought = sum_rows (values_of brought)
rows_by Maximum limit brought = map weighted_row (take limit (sorted greatest_first brought))
rows_by Minimum limit brought = map weighted_row (take limit (sorted least_first brought))
rows_by Set limit brought = set_rows limit (distinct compare (values_of brought))
rows_by Collection limit brought = map value_row (sorted compare (values_of brought))

-- the rows of a declared table, of what was brought to it under one index list
abbrev pub rows_of : Declaration → List Weighted → List RowDatum
rows_of table brought = rows_by table.kind table.limit brought

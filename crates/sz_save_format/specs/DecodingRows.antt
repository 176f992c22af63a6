-- What stands in front of bytes, and what follows it: values, rows, entries, tables and whole files.
use Rattle.std.specs.Prelude.{ℕ, ℤ, ◌+◌, ◌-◌, ◌*◌, ◌^◌, ◌==◌, ◌&&◌, ◌||◌, not, unsigned_abs, nat_le, Bool, true, false, if◌then◌else◌, Option, Some, None, List, [], ◌∷◌, length, take, drop, map, bytes_eq}
use Rattle.std.specs.Int.{w64, w128, cast_signed}
use Rattle.std.specs.Ordering.{is_lt}
use Rattle.std.specs.Str.{is_utf8}
use Rattle.sz_types.specs.Data.{Shape, FieldShapes, no_fields, with_field, field}
use Rattle.sz_types.specs.Tables.{Declaration}
use Rattle.sz_types.specs.declared.table.TableKind.{TableKind}
use Rattle.sz_types.specs.declared.table.TableKind.TheVariants.{Sum, Maximum, Minimum, Set, Collection}
use Rattle.sz_value.specs.Data.{Datum, truth, int, time, str, bytes, array, tuple, mapping, data_of, entries_of}
use Rattle.sz_value.specs.Order.{compare}
use Rattle.sz_tabs.specs.Data.{one, sums, RowDatum}
use Rattle.sz_tabs.specs.Rows.{overflow_row}
use Rattle.sz_total.specs.Tables.{Indexed}
use Rattle.sz_save_format.specs.Types.{field_count}
use Rattle.sz_save_format.specs.Entries.{components, row_may_follow, entry_may_follow, in_order}
use Rattle.sz_save_format.specs.Saved.{SavedState, most_bound, mark}
use Rattle.sz_save_format.specs.Decoding.{Decoder, and_then, both, only, fixed_at, length_at, byte_at, tagged, put_first, many_at, counted_at, string_at, declaration_at}

-- a count in 8 bytes
abbrev pub count_at : Decoder ℕ
count_at = fixed_at w64 8

-- a number in 8 bytes
unfoldable pub number_at : Decoder ℤ
number_at flat = and_then (count_at flat) (λ n rest. Some (cast_signed w64 n, rest))

-- a truth value behind its kind
unfoldable pub truth_at : Decoder Datum
truth_at flat =
    and_then (byte_at flat)
    (λ b rest. if b == 0 then Some (truth false, rest) else only (b == 1) (Some (truth true, rest)))

-- a text behind its kind
unfoldable pub text_at : Decoder Datum
text_at flat = and_then (string_at flat) (λ s rest. only (is_utf8 s) (Some (str s, rest)))

-- a key and its value
abbrev pub pair_at : Decoder Datum → Decoder Datum → Decoder (Datum × Datum)
pair_at key value = both key value

-- whether a key is above that before it
abbrev pub key_may_follow : Datum × Datum → Datum × Datum → Bool
key_may_follow earlier later = is_lt (compare earlier.0 later.0)

-- an array of these, a map of these, and a tuple of so many of these, each behind its kind
unfoldable pub array_at : Decoder Datum → Decoder Datum
array_at element flat = and_then (counted_at element flat) (λ ds rest. Some (array (data_of ds), rest))

unfoldable pub mapping_at : Decoder Datum → Decoder Datum → Decoder Datum
mapping_at key value flat =
    and_then (counted_at (pair_at key value) flat)
    (λ ps rest. only (in_order key_may_follow ps) (Some (mapping (entries_of ps), rest)))

unfoldable pub tuple_at : ℕ → Decoder (List Datum) → Decoder Datum
tuple_at count parts flat =
    and_then (length_at flat)
    (λ n rest. only (n == count) (and_then (parts rest) (λ ds more. Some (tuple (data_of ds), more))))

-- a number, a time and bytes, each behind its kind
abbrev pub int_at : Decoder Datum
int_at flat = and_then (number_at flat) (λ n rest. Some (int n, rest))

abbrev pub time_at : Decoder Datum
time_at flat = and_then (number_at flat) (λ n rest. Some (time n, rest))

abbrev pub octets_at : Decoder Datum
octets_at flat = and_then (string_at flat) (λ s rest. Some (bytes s, rest))

unfoldable mutual
  -- a value of a type
  pub value_at : Shape → Decoder Datum
  value_at Shape.truth flat = tagged 1 truth_at flat
  value_at Shape.int flat = tagged 2 int_at flat
  value_at Shape.time flat = tagged 3 time_at flat
  value_at Shape.str flat = tagged 4 text_at flat
  value_at Shape.bytes flat = tagged 5 octets_at flat
  value_at (Shape.array t) flat = tagged 6 (array_at (value_at t)) flat
  value_at (Shape.mapping k v) flat = tagged 8 (mapping_at (value_at k) (value_at v)) flat
  value_at (Shape.tuple fields) flat = tagged 7 (tuple_at (field_count fields) (parts_at fields)) flat
  value_at (Shape.proto fields) flat = tagged 7 (tuple_at (field_count fields) (parts_at fields)) flat

  -- a value of the type of each field
  pub parts_at : FieldShapes → Decoder (List Datum)
  parts_at no_fields flat = Some ([], flat)
  parts_at (with_field (field name t number code) fields) flat =
      and_then (value_at t flat) (λ d rest. put_first d (parts_at fields rest))

-- what was found, if it is all of the bytes, in front of others
abbrev pub whole : {X : Type 0} → Option (X × List ℕ) → List ℕ → Option (X × List ℕ)
whole found rest = and_then found (λ x left. only (length left == 0) (Some (x, rest)))

-- a value of a type behind the number of its bytes
unfoldable pub sized_at : Shape → Decoder Datum
sized_at t flat = and_then (count_at flat)
    (λ n rest. only (nat_le n (length rest)) (whole (value_at t (take n rest)) (drop n rest)))

-- a value of each of the types
unfoldable pub indexes_at : List Shape → Decoder (List Datum)
indexes_at [] flat = Some ([], flat)
indexes_at (t ∷ ts) flat = and_then (sized_at t flat) (λ d rest. put_first d (indexes_at ts rest))

-- 128 bits in 16 bytes
unfoldable pub wide_at : Decoder ℕ
wide_at flat = and_then (both count_at count_at flat) (λ p rest. Some (p.0 * 2 ^ 64 + p.1, rest))

-- a sum in 16 bytes that is at most this far from 0
unfoldable pub sum_at : ℕ → Decoder ℤ
sum_at most flat = and_then (wide_at flat)
    (λ n rest. only (nat_le (unsigned_abs (cast_signed w128 n)) most) (Some (cast_signed w128 n, rest)))

-- as many as a count in 8 bytes says
unfoldable pub long_counted_at : {X : Type 0} → Decoder X → Decoder (List X)
long_counted_at read flat = and_then (count_at flat) (λ n rest. many_at read n rest)

-- the row of so many sums
unfoldable pub sum_row_at : ℕ → ℕ → Decoder (List RowDatum)
sum_row_at most count flat =
    and_then (counted_at (sum_at most) flat)
    (λ ns rest. only (length ns == count) (Some (record { shown = sums ns; weight = None } ∷ [], rest)))

-- a weight, if there are weights
unfoldable pub rank_at : Bool → Decoder (Option ℤ)
rank_at false flat = Some (None, flat)
rank_at true flat = and_then (number_at flat) (λ n rest. Some (Some n, rest))

-- a row of a value, and its weight, if there are weights
unfoldable pub row_at : Bool → Shape → Decoder RowDatum
row_at ranked element flat =
    and_then (sized_at element flat) (λ value rest.
    and_then (rank_at ranked rest) (λ weight more. Some (record { shown = one value; weight = weight }, more)))

-- whether these are rows under one index list: at least one, at most so many, and in order
abbrev pub are_rows : TableKind → ℕ → List RowDatum → Bool
are_rows kind most rows = nat_le 1 (length rows) && (nat_le (length rows) most && in_order (row_may_follow kind) rows)

-- the same, of rows that were found
abbrev pub rows_in : TableKind → ℕ → Option (List RowDatum × List ℕ) → Option (List RowDatum × List ℕ)
rows_in kind most found = and_then found (λ rows rest. only (are_rows kind most rows) (Some (rows, rest)))

-- rows of values behind their number, in 4 bytes or in 8
unfoldable pub few_rows_at : TableKind → Bool → ℕ → Shape → Decoder (List RowDatum)
few_rows_at kind ranked most element flat = rows_in kind most (counted_at (row_at ranked element) flat)

unfoldable pub many_rows_at : TableKind → Bool → ℕ → Shape → Decoder (List RowDatum)
many_rows_at kind ranked most element flat = rows_in kind most (long_counted_at (row_at ranked element) flat)

-- the rows of a set: 1 for too many values, and else 0 and the rows behind their number
unfoldable pub set_at : ℕ → Shape → Decoder (List RowDatum)
set_at most element flat =
    and_then (byte_at flat) (λ b rest. if b == 0 then few_rows_at Set false most element rest
    else only (b == 1) (Some (overflow_row ∷ [], rest)))

-- the rows under an index list of a table of a kind
unfoldable pub kind_rows_at : TableKind → ℕ → ℕ → Shape → Decoder (List RowDatum)
kind_rows_at Sum bound limit element flat = sum_row_at (bound * 2 ^ 63) (components element) flat
kind_rows_at Maximum bound limit element flat = few_rows_at Maximum true limit element flat
kind_rows_at Minimum bound limit element flat = few_rows_at Minimum true limit element flat
kind_rows_at Set bound limit element flat = set_at limit element flat
kind_rows_at Collection bound limit element flat = many_rows_at Collection false (2 ^ 64 - 1) element flat

-- an index list and the rows under it
unfoldable pub entry_at : ℕ → Declaration → Decoder Indexed
entry_at bound table flat =
    and_then (indexes_at table.indexes flat)
    (λ indexes rest. and_then (kind_rows_at table.kind bound table.limit table.element rest) (λ rows more.
    Some (record { indexes = indexes; rows = rows }, more)))

-- whether these can be all index lists of a table: they rise, and a bound of 0 has none
abbrev pub are_entries : ℕ → List Indexed → Bool
are_entries bound entries = (not (bound == 0) || length entries == 0) && in_order entry_may_follow entries

-- what a table holds
unfoldable pub entries_at : ℕ → Declaration → Decoder (List Indexed)
entries_at bound table flat =
    and_then (long_counted_at (entry_at bound table) flat)
    (λ entries rest. only (are_entries bound entries) (Some (entries, rest)))

-- a table
unfoldable pub table_at : ℕ → Decoder (Declaration × List Indexed)
table_at bound flat = and_then (declaration_at flat)
    (λ table rest. and_then (entries_at bound table rest) (λ entries more. Some ((table, entries), more)))

-- the mark of a saved file
unfoldable pub mark_at : Decoder ℕ
mark_at flat = only (nat_le 8 (length flat) && bytes_eq (take 8 flat) mark) (Some (0, drop 8 flat))

-- the state of tables
abbrev pub state_with : ℕ → List (Declaration × List Indexed) → SavedState
state_with bound tables = record { bound = bound; decls = map (λ t. t.0) tables; tables = map (λ t. t.1) tables }

-- the bound behind the mark
unfoldable pub head_at : Decoder ℕ
head_at flat = and_then (mark_at flat)
    (λ _ rest. and_then (count_at rest) (λ bound more. only (nat_le bound most_bound) (Some (bound, more))))

-- what a saved file holds, all of it
unfoldable pub saved_at : Decoder SavedState
saved_at flat =
    and_then (head_at flat) (λ bound rest. and_then (counted_at (table_at bound) rest) (λ tables left.
    only (length left == 0) (Some (state_with bound tables, left))))

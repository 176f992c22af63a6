-- The order of values.
use Rattle.std.specs.Prelude.{ℕ, List}
use Rattle.std.specs.Ordering.{nat_cmp, int_cmp, bool_cmp, ordering_then, then_cmp, on}
use Rattle.std.specs.declared.cmp.Ordering.{Ordering}
use Rattle.std.specs.declared.cmp.Ordering.TheVariants.{Less, Equal, Greater}
use Rattle.std.specs.Cmp.Lexicographic.{slice_cmp}
use Rattle.std.specs.List.Sorted.{IsStrictlySortedBy}
use Rattle.std.specs.Map.{keys_of}
use Rattle.sz_value.specs.Data.{Datum, truth, int, time, str, bytes, array, tuple, mapping, Data, no_data, datum, Entries, no_entries, entry}

-- the place of a value's kind in the order of the kinds
abbrev pub kind : Datum → ℕ
kind (truth _) = 0
kind (int _) = 1
kind (time _) = 2
kind (str _) = 3
kind (bytes _) = 4
kind (array _) = 5
kind (tuple _) = 6
kind (mapping _) = 7

abbrev mutual
  -- how two values compare: of one kind by number, by bytes or by parts, else by their kinds
  pub compare : Datum → Datum → Ordering
  compare (truth b) (truth c) = bool_cmp b c
  compare (int m) (int n) = int_cmp m n
  compare (time m) (time n) = int_cmp m n
  compare (str s) (str t) = slice_cmp nat_cmp s t
  compare (bytes s) (bytes t) = slice_cmp nat_cmp s t
  compare (array ds) (array es) = compare_data ds es
  compare (tuple ds) (tuple es) = compare_data ds es
  compare (mapping ps) (mapping qs) = compare_entries ps qs
  compare d e = nat_cmp (kind d) (kind e)

  -- parts compare by the first that differ, and a front comes first
  pub compare_data : Data → Data → Ordering
  compare_data no_data no_data = Equal
  compare_data no_data (datum e es) = Less
  compare_data (datum d ds) no_data = Greater
  compare_data (datum d ds) (datum e es) = ordering_then (compare d e) (compare_data ds es)

  -- pairs compare by the first that differ, in which the key comes before the value, and a front comes first
  pub compare_entries : Entries → Entries → Ordering
  compare_entries no_entries no_entries = Equal
  compare_entries no_entries (entry l w qs) = Less
  compare_entries (entry k v ps) no_entries = Greater
  compare_entries (entry k v ps) (entry l w qs) =
      ordering_then (compare k l) (ordering_then (compare v w) (compare_entries ps qs))

-- how two pairs compare: by their keys, and where those are equal by their values
abbrev pub compare_pairs : Datum × Datum → Datum × Datum → Ordering
compare_pairs = then_cmp (on (λ p. p.0) compare) (on (λ p. p.1) compare)

-- each key is less than all keys after it
abbrev pub KeysRise : List (Datum × Datum) → Type 0
KeysRise pairs = IsStrictlySortedBy compare (keys_of pairs)

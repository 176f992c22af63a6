-- The weight of values.
use Rattle.std.specs.Prelude.{ℕ, ◌+◌, ◌-◌, ◌^◌, length, min}
use Rattle.sz_value.specs.Data.{Datum, truth, int, time, str, bytes, array, tuple, mapping, Data, no_data, datum, Entries, no_entries, entry}

abbrev mutual
  -- what a value weighs, however much that is
  pub full_weight : Datum → ℕ
  full_weight (truth _) = 1
  full_weight (int _) = 1
  full_weight (time _) = 1
  full_weight (str s) = 1 + length s
  full_weight (bytes s) = 1 + length s
  full_weight (array ds) = 1 + data_weight ds
  full_weight (tuple ds) = 1 + data_weight ds
  full_weight (mapping es) = 1 + entries_weight es

  -- what all parts weigh
  pub data_weight : Data → ℕ
  data_weight no_data = 0
  data_weight (datum d ds) = full_weight d + data_weight ds

  -- what all keys and values weigh
  pub entries_weight : Entries → ℕ
  entries_weight no_entries = 0
  entries_weight (entry k v es) = full_weight k + full_weight v + entries_weight es

-- what a value weighs as a number of 64 bits: the greatest one stands for all that is more
abbrev pub weight_of : Datum → ℕ
weight_of d = min (full_weight d) (2 ^ 64 - 1)

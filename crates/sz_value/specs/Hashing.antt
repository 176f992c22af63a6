-- What a hasher is fed of a value.
use Rattle.std.specs.Prelude.{◌≡◌, IsTrue, ◌++◌}
use Rattle.std.specs.Hash as fed
use Rattle.std.specs.Hash.{HashWrites}
use Rattle.std.specs.Cmp.{Equal-is}
use Rattle.std.specs.Ordering.{is_eq}
use Rattle.std.proofs.Common.{ap}
use Rattle.sz_value.specs.Data.{Datum, truth, int, time, str, bytes, array, tuple, mapping, Data, no_data, datum, Entries, no_entries, entry}
use Rattle.sz_value.specs.Order.{compare}
use Rattle.sz_value.specs.Total.{compare_ties}
use Rattle.sz_value.specs.Seen.{seen}
use Rattle.sz_value.specs.declared.value.Value.{Value}

abbrev mutual
  -- the number of a value's kind, and then what is in it
  pub hash_writes : Datum → HashWrites
  hash_writes (truth b) = fed.u8 0 ++ fed.bool b
  hash_writes (int n) = fed.u8 1 ++ fed.i64 n
  hash_writes (time n) = fed.u8 2 ++ fed.i64 n
  hash_writes (str s) = fed.u8 3 ++ fed.str s
  hash_writes (bytes s) = fed.u8 4 ++ fed.slice fed.u8 s
  hash_writes (array ds) = fed.u8 5 ++ data_writes ds
  hash_writes (tuple ds) = fed.u8 6 ++ data_writes ds
  hash_writes (mapping es) = fed.u8 7 ++ entries_writes es

  -- each part, and 8 at the end
  pub data_writes : Data → HashWrites
  data_writes no_data = fed.u8 8
  data_writes (datum d ds) = hash_writes d ++ data_writes ds

  -- each key and its value, and 8 at the end
  pub entries_writes : Entries → HashWrites
  entries_writes no_entries = fed.u8 8
  entries_writes (entry k v es) = (hash_writes k ++ hash_writes v) ++ entries_writes es

-- equal values feed a hasher alike
pub equal_values_hash_alike : (v w : Value) → IsTrue (is_eq (compare (seen v) (seen w)))
    → hash_writes (seen v) ≡ hash_writes (seen w)
equal_values_hash_alike v w equal =
    ap hash_writes (compare_ties (seen v) (seen w) ((Equal-is (compare (seen v) (seen w))).0 equal))

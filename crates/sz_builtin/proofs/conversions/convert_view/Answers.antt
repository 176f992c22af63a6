-- What the type is by its kind.
use Rattle.std.proofs.Common.{rules}
use Rattle.sz_types.proofs.ForCallers.{seen_bool, seen_int, seen_time, seen_str, seen_bytes, seen_array, seen_map, seen_tuple, seen_proto}
use Rattle.sz_builtin.proofs.conversions.convert_view.Goals as goal

pub returns-in-Bool : goal.returns-in-Bool
returns-in-Bool c = record { value = rw (c.in-Bool.is, seen_bool) (search rules) }

pub returns-in-Int : goal.returns-in-Int
returns-in-Int c = record { value = rw (c.in-Int.is, seen_int) (search rules) }

pub returns-in-Time : goal.returns-in-Time
returns-in-Time c = record { value = rw (c.in-Time.is, seen_time) (search rules) }

pub returns-in-Str : goal.returns-in-Str
returns-in-Str c = record { value = rw (c.in-Str.is, seen_str) (search rules) }

pub returns-in-Bytes : goal.returns-in-Bytes
returns-in-Bytes c = record { value = rw (c.in-Bytes.is, seen_bytes) (search rules) }

pub returns-in-Array : goal.returns-in-Array
returns-in-Array c = record { value = rw (c.in-Array.is, seen_array) (search rules) }

pub returns-in-Map : goal.returns-in-Map
returns-in-Map c = record { value = rw (c.in-Map.is, seen_map) (search rules) }

pub returns-in-Tuple : goal.returns-in-Tuple
returns-in-Tuple c = record { value = rw (c.in-Tuple.is, seen_tuple) (search rules) }

pub returns-in-Proto : goal.returns-in-Proto
returns-in-Proto c = record { value = rw (c.in-Proto.is, seen_proto) (search rules) }

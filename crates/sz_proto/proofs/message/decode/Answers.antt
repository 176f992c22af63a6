use Rattle.std.proofs.Common.{refl}
use Rattle.sz_types.proofs.ForCallers.{seen_bool, seen_int, seen_time, seen_str, seen_bytes, seen_array, seen_map, seen_tuple, seen_proto}
use Rattle.sz_proto.specs.Messages.{decoded}
use Rattle.sz_proto.proofs.MessageLemmas.{whole_payload}
use Rattle.sz_proto.proofs.message.decode.Goals as goal

pub returns-in-Proto : goal.returns-in-Proto
unfolding decoded
returns-in-Proto c = record {
  value = rw (c.in-Proto.is, seen_proto c.in-Proto.fields)
      (rw (c.as_slice.ensures.value, whole_payload c.args.bytes.now) at c.message.ensures.value);
}

pub returns-in-Bool : goal.returns-in-Bool
unfolding decoded
returns-in-Bool c = record { value = rw (c.in-Bool.is, seen_bool) refl }

pub returns-in-Int : goal.returns-in-Int
unfolding decoded
returns-in-Int c = record { value = rw (c.in-Int.is, seen_int) refl }

pub returns-in-Time : goal.returns-in-Time
unfolding decoded
returns-in-Time c = record { value = rw (c.in-Time.is, seen_time) refl }

pub returns-in-Str : goal.returns-in-Str
unfolding decoded
returns-in-Str c = record { value = rw (c.in-Str.is, seen_str) refl }

pub returns-in-Bytes : goal.returns-in-Bytes
unfolding decoded
returns-in-Bytes c = record { value = rw (c.in-Bytes.is, seen_bytes) refl }

pub returns-in-Array : goal.returns-in-Array
unfolding decoded
returns-in-Array c = record { value = rw (c.in-Array.is, seen_array _) refl }

pub returns-in-Map : goal.returns-in-Map
unfolding decoded
returns-in-Map c = record { value = rw (c.in-Map.is, seen_map _ _) refl }

pub returns-in-Tuple : goal.returns-in-Tuple
unfolding decoded
returns-in-Tuple c = record { value = rw (c.in-Tuple.is, seen_tuple _) refl }

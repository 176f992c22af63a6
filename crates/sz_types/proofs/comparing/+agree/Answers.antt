-- Types of two kinds are not alike.
use Rattle.std.proofs.Common.{sym}
use Rattle.sz_types.proofs.SeenLemmas.{seen_array, seen_map, seen_tuple, seen_proto}
use Rattle.sz_types.proofs.SameLemmas.{only_array, only_map, only_tuple, only_proto}
use Rattle.sz_types.proofs.comparing.+agree.Goals as goal

pub types_agree-returns-in_default-6 : goal.types_agree-returns-in_default-6
types_agree-returns-in_default-6 t c = record {
  value = rw (c.in_default.is-0, seen_array) (sym (only_array _ c.args.b.now c.in_default.not-Array-1));
}

pub types_agree-returns-in_default-7 : goal.types_agree-returns-in_default-7
types_agree-returns-in_default-7 t c = record {
  value = rw (c.in_default.is-0, seen_map) (sym (only_map _ _ c.args.b.now c.in_default.not-Map-1));
}

pub types_agree-returns-in_default-8 : goal.types_agree-returns-in_default-8
types_agree-returns-in_default-8 t c = record {
  value = rw (c.in_default.is-0, seen_tuple) (sym (only_tuple _ c.args.b.now c.in_default.not-Tuple-1));
}

pub types_agree-returns-in_default-9 : goal.types_agree-returns-in_default-9
types_agree-returns-in_default-9 t c = record {
  value = rw (c.in_default.is-0, seen_proto) (sym (only_proto _ c.args.b.now c.in_default.not-Proto-1));
}

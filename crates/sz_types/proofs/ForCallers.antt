-- What the crates above may cite: what is seen of each kind of type, the laws of the definitions, and what is made of
-- the rest of a list.
pub use Rattle.sz_types.proofs.SeenLemmas.{box_of, seen_bool, seen_int, seen_time, seen_str, seen_bytes, seen_array, seen_map, seen_tuple, seen_proto, fields_seen, field_at}
pub use Rattle.sz_types.proofs.AlikeLemmas.{alike_equal, alike_itself, alike_is_equality}
pub use Rattle.sz_types.proofs.ConversionLemmas.{table_is_exact, converts_itself}
pub use Rattle.sz_types.proofs.ListLemmas.{rest_more, rest_none}

-- What the crates above may cite.
pub use Rattle.sz_core.proofs.RowLemmas.{form_of_call, form_of_builtin, form_of_array, form_of_tuple, form_of_map, stm_of_block}
pub use Rattle.sz_core.proofs.FormedLemmas.{IsFormed, AreFormed, some_has, element_formed, key_formed, value_formed, fields_formed, formed_at}
pub use Rattle.sz_core.proofs.FormedLemmas.{truth_formed, int_formed, bytes_formed, unary_formed, binary_formed, index_formed, slice_same, builtin_formed}

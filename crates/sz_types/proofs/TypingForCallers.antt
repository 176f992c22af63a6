-- What the crates above may cite.
pub use Rattle.sz_types.proofs.TypeLemmas.{of_truth, of_int, of_time, of_str, of_bytes, of_array, of_mapping}

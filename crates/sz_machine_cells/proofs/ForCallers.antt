-- What the crates above may cite.
pub use Rattle.sz_machine_cells.proofs.ListLemmas.{are_all, all_told}

-- What the crates above may cite: where a field has the type of a message, the message is one of the file's; and a
-- file has one list of types.
pub use Rattle.sz_protofile_types.proofs.TargetLemmas.{target_of}
pub use Rattle.sz_protofile_types.proofs.UniqueLemmas.{makes_same}
pub use Rattle.sz_protofile_types.proofs.FoundLemmas.{one_type}

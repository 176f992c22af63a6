-- What the crates above may cite.
pub use Rattle.sz_proto.proofs.TypeLemmas.{values_have_their_type}

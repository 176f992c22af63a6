-- What the crates above may cite: what is known of a text all of whose bytes are ASCII, and of one after some of its
-- characters.
pub use Rattle.sz_value.proofs.TextLemmas.{ascii_passes, passes_ascii, ascii_told, ascii_joined, ascii_part, ascii_cut}
pub use Rattle.sz_value.proofs.CharacterLemmas.{fewer_after}

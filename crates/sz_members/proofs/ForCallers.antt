-- What the crates above may cite: elements entered into a sorted list.
pub use Rattle.sz_members.proofs.FullLemmas.{entered_again, IsApart, apart_sorted, entered_apart}

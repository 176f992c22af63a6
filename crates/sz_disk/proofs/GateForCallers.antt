-- What the crates above may cite.
pub use Rattle.sz_disk.proofs.EntryLemmas.{opened_long, opened_more, end_more}
pub use Rattle.sz_disk.proofs.LeaveLemmas.{rests_synced, the_image, synced_still, leaves_if, leaves_none, leaves_both}
pub use Rattle.sz_disk.proofs.LeaveLemmas.{falls_not_refl, falls_not_both, nothing_both, rests_still}
pub use Rattle.sz_disk.proofs.ChainLemmas.{same_opened}
pub use Rattle.sz_disk.proofs.ReadLemmas.{some_if, some_both, some_three}

-- What crates above need of files that are merged.
pub use Rattle.sz_merge.proofs.TogetherLemmas.{can_more}
pub use Rattle.sz_merge.proofs.CountLemmas.{HasFew, few_saved}
pub use Rattle.sz_merge.proofs.StepLemmas.{Step, joins, is_bad, is_other, is_past, step_of, IsSmall, HasTogether, together_of}

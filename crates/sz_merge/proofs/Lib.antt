mod EitherLemmas
mod SortedLemmas
mod JoinedGroupLemmas
mod UniqueLemmas
mod StateLemmas
mod JoiningLemmas
mod EmitLemmas
mod TableLemmas
mod RunLemmas
mod TogetherLemmas
mod GroupLemmas
mod ReadingLemmas
mod CountLemmas
mod StepLemmas
pub mod ForCallers

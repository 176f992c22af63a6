pub mod CountLemmas
pub mod DecideLemmas
pub mod GrowthLemmas
pub mod HistoryLemmas
pub mod StepLemmas

pub mod QuickLemmas
pub mod CoverLemmas
pub mod StepLemmas
pub mod LineLemmas
pub mod RunLemmas

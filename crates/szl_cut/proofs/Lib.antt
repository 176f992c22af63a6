pub mod MessageLemmas
pub mod PartLemmas
pub mod ReadingLemmas
pub mod AnswerLemmas

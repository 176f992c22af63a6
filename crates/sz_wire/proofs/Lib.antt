pub mod VarintLemmas
pub mod PlainLemmas
pub mod GroupLemmas

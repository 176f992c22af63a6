pub mod WidthLemmas
mod GrownLemmas
mod SumLemmas

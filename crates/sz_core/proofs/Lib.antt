pub mod ForCallers
pub mod RowLemmas
pub mod FormedLemmas
mod TypeLemmas
pub mod LawLemmas
mod ExampleLemmas

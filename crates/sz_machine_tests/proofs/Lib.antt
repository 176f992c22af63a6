pub mod ExampleLemmas
pub mod SharingLemmas
pub mod CountingLemmas

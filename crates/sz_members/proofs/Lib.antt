pub mod ForCallers
mod RepeatsLemmas
mod FullLemmas
mod ShowingLemmas
mod MembersLemmas

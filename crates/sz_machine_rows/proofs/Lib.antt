pub mod PayLemmas
pub mod EmitLemmas
pub mod FlowLemmas
pub mod TextLemmas
pub mod StoreLemmas
pub mod ForCallers

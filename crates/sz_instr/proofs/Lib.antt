pub mod OneEnd
pub mod RunLaws
pub mod EmitsFit
pub mod ForCallers
pub mod WellFormedLemmas

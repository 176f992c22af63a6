mod StepLemmas
mod LineLaws
mod TypeLaws
mod PartLaws
mod ReachLaws
mod LevelLaws
pub mod ReadingLaws
mod NamedLines
mod NameLaws
mod LinkLemmas
mod LoopRankLemmas
mod Places
mod Ways
mod Taken
mod Opened
mod Closed
mod Cuts
mod Closings
mod Steps
mod Sounds
mod Ends
pub mod ForCallers
mod RankLemmas
pub mod TargetLemmas
pub mod UniqueLemmas
mod OrderLemmas
mod MakingLemmas
mod CountLemmas
mod HoldingLemmas
pub mod FoundLemmas
mod ReadLemmas

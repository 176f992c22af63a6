pub mod EmptyLanes
pub mod SmallPlans

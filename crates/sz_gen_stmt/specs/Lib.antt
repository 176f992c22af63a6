pub mod Making
pub mod MarkedCode

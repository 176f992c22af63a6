-- for the crates above as well
pub mod Holds
pub mod Steps
pub mod Items
pub mod TokenLemmas
pub mod PostfixSound
pub mod ExpressionSound
pub mod OperatorLemmas
pub mod PostfixComplete
pub mod ExpressionComplete
pub mod TypeSound
pub mod TypeComplete
pub mod ExpressionAlike
pub mod TypeAlike
pub mod Loops
pub mod ExpressionRows
-- what the proofs of this crate rest on
mod ExpressionTurns
mod TypeTurns

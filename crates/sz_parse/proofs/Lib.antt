mod SimpleSound
mod TableSound
mod StatementSound
mod SimpleComplete
mod TableComplete
mod StatementComplete
mod StatementAlike
mod Whole
mod StatementTurns
mod ProgramTurns
mod Total
pub mod ForCallers

-- names and types
mod Tests
mod Meanings
mod Sights
mod TypeSound
-- expressions
mod RowLemmas
mod FirstTypes
mod OwnTypes
mod AgreeLemmas
mod NodeLemmas
mod ExpressionSound
-- statements
mod SceneLemmas
mod BoundLemmas
mod WhenSound
mod PathLemmas
mod StatementLemmas
mod StatementSound
-- what emits
mod ExpressionEmits
mod HiddenLemmas
mod StatementEmits
mod FunctionEmits
-- whole programs
mod ItemLemmas
mod TopLemmas
mod ItemSound
mod FunctionSound
mod ProgramSound
mod StandardFacts
-- types written in front of a program
mod SameNames
mod SameStatements
mod SameInside
mod TypesFirst
mod SpelledTypes
mod WrittenTypes
-- for the crates above
pub mod ForCallers
-- for the crates above
pub mod Holds
pub mod TruthLemmas

mod StatementParts
mod StatementLoops
mod FoldLemmas
mod WhenLemmas
mod FunctionLemmas
mod ProgramLemmas
mod RoundLemmas

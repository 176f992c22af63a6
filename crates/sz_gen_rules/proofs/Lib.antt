-- what the code of expressions does
mod Steps
mod Leaves
mod Stacks
mod Types
mod Operators
mod Composites
mod Conversions
mod Choices
mod CallExpressions
mod Expressions
mod Forward
mod Indexes
-- what has to hold after an end of a statement, and what is known of slots
mod Outcomes
mod Slots
mod Stores
-- what the code of statements does
mod Parts
mod LastLines
mod Loops
mod LoopCode
-- what the code of `when` does
mod Candidates
mod Findings
mod Searches
mod SearchesInOrder
-- what the code of all statements does
mod Statements
-- what the code of programs does
mod Declared
mod Calls
mod Statics
mod Records
mod Simulation
mod WorkedRuns
-- each number in code is in range
mod ExpressionsInRange
mod SearchesInRange
mod StatementsInRange
mod CodeInRange
-- both together
mod Compilation

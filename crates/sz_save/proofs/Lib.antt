mod ListLemmas
mod WalkLemmas
mod TakenLemmas
mod PassingLemmas
mod ReadingLemmas
mod TablesReadLemmas
mod SumLemmas
pub mod RisingLemmas
pub mod RowLemmas
pub mod JoinLemmas
mod SavingLemmas

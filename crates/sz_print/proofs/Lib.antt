mod JoinedLemmas
mod ValueLemmas
mod StandardFacts
mod TablesLemmas
mod PiecesLemmas
mod OrderLemmas

mod PairLemmas
mod TestLemmas

mod RankLemmas
mod HeapLemmas
mod ExtremeLemmas

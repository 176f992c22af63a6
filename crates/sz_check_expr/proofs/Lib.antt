-- for the crates above as well
-- what the proofs of this crate rest on
mod TypeLemmas
mod ListLemmas
mod CallLemmas
mod ExpLemmas

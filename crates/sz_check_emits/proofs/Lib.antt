-- what the proofs of this crate rest on
mod TableLemmas
-- what the proofs of this crate rest on
mod EmitLemmas

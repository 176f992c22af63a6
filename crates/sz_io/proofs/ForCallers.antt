-- What a crate above may cite of counts over several calls.
use Rattle.std.proofs.Common.{ℕ, ◌≤◌, inl, inr, arith}
use Rattle.sz_io.specs.Rose.{Rose}

-- a count that did not fall and then rose, rose
pub rose_later : (a b c : ℕ) → a ≤ b → Rose b c → Rose a c
rose_later a b c first (inl more) = inl (omega (arith, more))
rose_later a b c first (inr stands) = inr stands

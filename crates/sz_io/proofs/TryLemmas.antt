-- What the errors of several tries make of the count.
use Rattle.std.proofs.Common.{◌≡◌, ◌+◌, ◌-◌, ◌^◌, ◌<◌, ℕ, min, Bool, true, false, arith}
use Rattle.sz_io.specs.Rose.{CountsErrors, faults_after}

-- a last error after those of `n` tries
pub one_more : (tries before last now n : ℕ) (failed : Bool) → last ≡ min (before + n) (2 ^ 64 - 1)
    → now ≡ faults_after last true → n < tries → CountsErrors tries before now failed
one_more tries before last now n failed so_far counted less = record {
  errors = n + 1;
  counted = omega arith;
  some_if_failed = λ _. omega arith;
  at_most = omega arith;
}

-- the errors of two calls
pub of_both : (a b c : ℕ) (failed : Bool) → CountsErrors 100 a b false → CountsErrors 100 b c failed
    → CountsErrors 200 a c failed
of_both a b c failed first second = record {
  errors = first.errors + second.errors;
  counted = omega (arith, first.counted, second.counted);
  some_if_failed = λ fails. omega (arith, second.some_if_failed fails);
  at_most = omega (arith, first.at_most, second.at_most);
}

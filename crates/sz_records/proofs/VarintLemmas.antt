-- Bytes that are added after a varint change nothing of it.
use Rattle.std.proofs.Common.{◌≡◌, ℕ, zero, suc, ◌+◌, ◌-◌, ◌*◌, ◌%◌, ◌^◌, ◌≤◌, List, [], ◌∷◌, ◌++◌, length, Option}
use Rattle.std.proofs.Common.{Some, None, Bool, true, false, cond, ltb, refl, sym, ap, ◌∙◌, arith}
use Rattle.std.proofs.lemmas.Option.{some_pair_parts}
use Rattle.sz_wire.specs.Varint.{low_bits, number_at, in_64_bits, varint_at}

low_bits_found : (b : ℕ) (read : Option (ℕ × List ℕ)) (n : ℕ) (rest : List ℕ) → low_bits b read ≡ Some (n, rest)
    → (high : ℕ) × (read ≡ Some (high, rest)) × (n ≡ b - 128 + 128 * high)
low_bits_found b None n rest e = absurd cc
low_bits_found b (Some found) n rest e =
    let parts = some_pair_parts (b - 128 + 128 * found.0) n found.1 rest e in
    (found.0, ap (λ (r : List ℕ). Some (found.0, r)) parts.1, sym parts.0)

number_stays : (most : ℕ) (a b : List ℕ) (n : ℕ) (rest : List ℕ) → number_at most a ≡ Some (n, rest)
    → number_at most (a ++ b) ≡ Some (n, rest ++ b)
unfolding number_at
number_stays zero a b n rest e = absurd cc
number_stays (suc most) [] b n rest e = absurd cc
number_stays (suc most) (x ∷ xs) b n rest e = by_test (λ high h. number_stays most xs b high rest h) (ltb x 128) e
  where
    by_test : ((high : ℕ) → number_at most xs ≡ Some (high, rest) → number_at most (xs ++ b) ≡ Some (high, rest ++ b))
        → (t : Bool) → cond t (Some (x, xs)) (low_bits x (number_at most xs)) ≡ Some (n, rest)
        → cond t (Some (x, xs ++ b)) (low_bits x (number_at most (xs ++ b))) ≡ Some (n, rest ++ b)
    by_test goes true h = let parts = some_pair_parts x n xs rest h in rw (parts.0, parts.1) refl
    by_test goes false h = let f = low_bits_found x (number_at most xs) n rest h in
        ap (low_bits x) (goes f.0 f.1) ∙ ap (λ (m : ℕ). Some (m, rest ++ b)) (sym f.2)

number_stays_none : (most : ℕ) (a b : List ℕ) → most ≤ length a → number_at most a ≡ None
    → number_at most (a ++ b) ≡ None
unfolding number_at
number_stays_none zero a b le e = refl
number_stays_none (suc most) [] b le e = absurd (omega arith)
number_stays_none (suc most) (x ∷ xs) b le e = by_test (λ h. number_stays_none most xs b (omega arith) h) (ltb x 128) e
  where
    low_bits_none : (read : Option (ℕ × List ℕ)) → low_bits x read ≡ None → read ≡ None
    low_bits_none None h = refl
    low_bits_none (Some found) h = absurd cc

    by_test : (number_at most xs ≡ None → number_at most (xs ++ b) ≡ None) → (t : Bool)
        → cond t (Some (x, xs)) (low_bits x (number_at most xs)) ≡ None
        → cond t (Some (x, xs ++ b)) (low_bits x (number_at most (xs ++ b))) ≡ None
    by_test goes true h = absurd cc
    by_test goes false h = ap (low_bits x) (goes (low_bits_none (number_at most xs) h))

in_64_bits_found : (read : Option (ℕ × List ℕ)) (n : ℕ) (rest : List ℕ) → in_64_bits read ≡ Some (n, rest)
    → (m : ℕ) × (read ≡ Some (m, rest)) × (n ≡ m % 2 ^ 64)
in_64_bits_found None n rest e = absurd cc
in_64_bits_found (Some found) n rest e =
    let parts = some_pair_parts (found.0 % 2 ^ 64) n found.1 rest e in
    (found.0, ap (λ (r : List ℕ). Some (found.0, r)) parts.1, sym parts.0)

pub varint_stays : (a b : List ℕ) (n : ℕ) (rest : List ℕ) → varint_at a ≡ Some (n, rest)
    → varint_at (a ++ b) ≡ Some (n, rest ++ b)
unfolding varint_at
varint_stays a b n rest e =
    let f = in_64_bits_found (number_at 10 a) n rest e in
    ap in_64_bits (number_stays 10 a b f.0 rest f.1) ∙ ap (λ (m : ℕ). Some (m, rest ++ b)) (sym f.2)

pub varint_stays_none : (a b : List ℕ) → 10 ≤ length a → varint_at a ≡ None → varint_at (a ++ b) ≡ None
unfolding varint_at
varint_stays_none a b le e = rw (number_stays_none 10 a b le (not_found (number_at 10 a) e)) refl
  where
    not_found : (read : Option (ℕ × List ℕ)) → in_64_bits read ≡ None → read ≡ None
    not_found None h = refl
    not_found (Some found) h = absurd cc

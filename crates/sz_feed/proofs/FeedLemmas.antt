-- How the records after a draw begin.
use Rattle.std.proofs.Common.{arith, ◌≡◌, ◌++◌, ◌<◌, ◌+◌, ◌-◌, ℕ, List, suc, ap, append_assoc}
use Rattle.sz_feed.specs.Feed.{framed, next, record_of, records_after}

-- the record of the next three draws, and then the records after them
pub one_more : (x n i : ℕ) → i < n
    → records_after x (n - i) ≡ framed (record_of (next x) (next (next x)) (next (next (next x))))
    ++ records_after (next (next (next x))) (n - (i + 1))
one_more x n i below = let e : n - i ≡ suc (n - (i + 1)) = omega (arith, below) in ap (records_after x) e

-- what was made so far and is to come stays the file when a record is appended
pub appended : (x a b c n i : ℕ) (before after file : List ℕ) → i < n → a ≡ next x → b ≡ next a → c ≡ next b
    → after ≡ before ++ framed (record_of a b c) → before ++ records_after x (n - i) ≡ file
    → after ++ records_after c (n - (i + 1)) ≡ file
appended x a b c n i before after file below drawn_a drawn_b drawn_c grown held =
    let more = one_more x n i below in
    let joined = append_assoc before (framed (record_of a b c)) (records_after c (n - (i + 1))) in cc

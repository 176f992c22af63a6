use Rattle.std.proofs.Common.{◌≡◌, ◌+◌, ◌*◌, ◌^◌, ◌++◌, ◌∷◌, replicate}
use Rattle.sz_claims.proofs.words.first_words.Given as goal

abbrev pub invariant-loop : goal.invariant-loop
invariant-loop l = l.words.items ≡ replicate (3 * l.shards + 1) 0 ++ 2 ^ 32 ∷ replicate l.counter 0

use Rattle.std.proofs.Common.{◌≡◌, false, map, replicate}
use Rattle.sz_claims.proofs.words.blank_rows.Given as goal

abbrev pub invariant-loop : goal.invariant-loop
invariant-loop l = map (λ r. r.items) l.all.items ≡ replicate l.counter (replicate l.count false)

use Rattle.std.proofs.Common.{ℕ, ◌-◌, ◌==◌, ap, arith}
use Rattle.std.proofs.lemmas.Nat.{one_shl, pow_pos}
use Rattle.sz_workers.proofs.round_end.all_died.Goals as goal

-- there are so many bits
pub overflow_sub-result : goal.overflow_sub-result
overflow_sub-result c =
    let n : ℕ = c.args.attempts in
    let few = c.requires.few in omega (arith, one_shl n 64 (omega (arith, few.0, few.1)), pow_pos n)

pub returns : goal.returns
returns c =
    let n : ℕ = c.args.attempts in
    let few = c.requires.few in
    record { value = ap (λ (m : ℕ). c.args.deaths == m - 1) (one_shl n 64 (omega (arith, few.0, few.1))) }

-- The plans of tests are plans.
use Rattle.std.proofs.Common.{ℕ, zero, suc, ◌<◌, ◌≤◌, [], ◌∷◌, arith}
use Rattle.std.specs.Prelude.{slice_index}
use Rattle.sz_book_rules.specs.Plan.{tickets_of, IsPlan}

within_two : (t : ℕ) → t < 2 → slice_index (0 ∷ 0 ∷ []) t < 1
within_two zero low = omega arith
within_two (suc zero) low = omega arith
within_two (suc (suc t)) low = absurd (omega arith)

each_two : (s : ℕ) → s < 1 → (1 ≤ tickets_of s (0 ∷ 0 ∷ [])) × (tickets_of s (0 ∷ 0 ∷ []) ≤ 2)
each_two zero low = (omega arith, omega arith)
each_two (suc s) low = absurd (omega arith)

-- one shard with two tickets
pub two_tickets : IsPlan record { shards = 1; attempts = 2; tickets = 0 ∷ 0 ∷ [] }
two_tickets = record {
  shards = omega arith;
  attempts = (omega arith, omega arith);
  tickets = omega arith;
  within = within_two;
  each = each_two;
}

within_one : (t : ℕ) → t < 1 → slice_index (0 ∷ []) t < 1
within_one zero low = omega arith
within_one (suc t) low = absurd (omega arith)

each_one : (s : ℕ) → s < 1 → (1 ≤ tickets_of s (0 ∷ [])) × (tickets_of s (0 ∷ []) ≤ 2)
each_one zero low = (omega arith, omega arith)
each_one (suc s) low = absurd (omega arith)

-- one shard with one ticket
pub one_ticket : IsPlan record { shards = 1; attempts = 2; tickets = 0 ∷ [] }
one_ticket = record {
  shards = omega arith;
  attempts = (omega arith, omega arith);
  tickets = omega arith;
  within = within_one;
  each = each_one;
}

within_four : (t : ℕ) → t < 4 → slice_index (0 ∷ 1 ∷ 2 ∷ 3 ∷ []) t < 4
within_four zero low = omega arith
within_four (suc zero) low = omega arith
within_four (suc (suc zero)) low = omega arith
within_four (suc (suc (suc zero))) low = omega arith
within_four (suc (suc (suc (suc t)))) low = absurd (omega arith)

each_four : (s : ℕ) → s < 4 → (1 ≤ tickets_of s (0 ∷ 1 ∷ 2 ∷ 3 ∷ [])) × (tickets_of s (0 ∷ 1 ∷ 2 ∷ 3 ∷ []) ≤ 2)
each_four zero low = (omega arith, omega arith)
each_four (suc zero) low = (omega arith, omega arith)
each_four (suc (suc zero)) low = (omega arith, omega arith)
each_four (suc (suc (suc zero))) low = (omega arith, omega arith)
each_four (suc (suc (suc (suc s)))) low = absurd (omega arith)

-- four shards with one ticket each
pub four_shards : IsPlan record { shards = 4; attempts = 1; tickets = 0 ∷ 1 ∷ 2 ∷ 3 ∷ [] }
four_shards = record {
  shards = omega arith;
  attempts = (omega arith, omega arith);
  tickets = omega arith;
  within = within_four;
  each = each_four;
}

within_six : (t : ℕ) → t < 6 → slice_index (0 ∷ 1 ∷ 1 ∷ 2 ∷ 3 ∷ 0 ∷ []) t < 4
within_six zero low = omega arith
within_six (suc zero) low = omega arith
within_six (suc (suc zero)) low = omega arith
within_six (suc (suc (suc zero))) low = omega arith
within_six (suc (suc (suc (suc zero)))) low = omega arith
within_six (suc (suc (suc (suc (suc zero))))) low = omega arith
within_six (suc (suc (suc (suc (suc (suc t)))))) low = absurd (omega arith)

each_six : (s : ℕ) → s < 4
    → (1 ≤ tickets_of s (0 ∷ 1 ∷ 1 ∷ 2 ∷ 3 ∷ 0 ∷ [])) × (tickets_of s (0 ∷ 1 ∷ 1 ∷ 2 ∷ 3 ∷ 0 ∷ []) ≤ 2)
each_six zero low = (omega arith, omega arith)
each_six (suc zero) low = (omega arith, omega arith)
each_six (suc (suc zero)) low = (omega arith, omega arith)
each_six (suc (suc (suc zero))) low = (omega arith, omega arith)
each_six (suc (suc (suc (suc s)))) low = absurd (omega arith)

-- four shards with six tickets
pub six_tickets : IsPlan record { shards = 4; attempts = 2; tickets = 0 ∷ 1 ∷ 1 ∷ 2 ∷ 3 ∷ 0 ∷ [] }
six_tickets = record {
  shards = omega arith;
  attempts = (omega arith, omega arith);
  tickets = omega arith;
  within = within_six;
  each = each_six;
}

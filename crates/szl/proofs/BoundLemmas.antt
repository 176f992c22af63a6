-- The bound of saved tables has its place.
use Rattle.std.proofs.Common.{ℕ, ◌*◌, ◌^◌, ◌<◌, ◌≤◌, arith}
use Rattle.std.proofs.lemmas.Nat.{mul-le}

-- so many records of so many ticks each
pub low_product : (records budget : ℕ) → records ≤ 2 ^ 31 → budget ≤ 2 ^ 32 → records * budget ≤ 2 ^ 63
low_product records budget few low = mul-le records budget (2 ^ 31) (2 ^ 32) few low

pub product_fits : (records budget : ℕ) → records ≤ 2 ^ 31 → budget ≤ 2 ^ 32 → records * budget < 2 ^ 64
product_fits records budget few low = let product = low_product records budget few low in omega (arith, product)

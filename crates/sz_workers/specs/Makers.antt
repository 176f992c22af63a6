-- What is true of an attempt that gave a part, and of one that gave none.
use Rattle.std.specs.Prelude.{ℕ}
use Rattle.sz_workers.specs.declared.maker.Missed.{Missed}
use Rattle.sz_workers.specs.declared.maker.Missed.TheVariants.{Died, Bad, NoMemory}

-- attempt k of shard s died, or it did not, and shard s is bad
abbrev pub IsTrueMiss : (ℕ → ℕ → Type 0) → (ℕ → Type 0) → ℕ → ℕ → Missed → Type 0
IsTrueMiss died is_bad s k Died = died s k
IsTrueMiss died is_bad s k Bad = ¬ died s k × is_bad s
IsTrueMiss died is_bad s k NoMemory = Unit {0}

-- attempt k of shard s did not die, and shard s isn't bad
abbrev pub GivesEmits : (ℕ → ℕ → Type 0) → (ℕ → Type 0) → ℕ → ℕ → Type 0
GivesEmits died is_bad s k = ¬ died s k × ¬ is_bad s

-- What the steps of calls make of a word.
use Rattle.std.specs.Prelude.{ℕ, ◌+◌, ◌%◌, ◌^◌, ◌==◌, min, bit_or}
use prog.Atomic.{either}
use Rattle.sz_claims.specs.declared.steps.Change.{Change}
use Rattle.sz_claims.specs.declared.steps.Change.TheVariants.{Keep, Next, Mark, Lower, Put}

-- what the change makes of a word that is n
abbrev pub changed : Change → ℕ → ℕ
changed Keep n = n
changed Next n = (n + 1) % 2 ^ 64
changed (Mark bits) n = bit_or n bits
changed (Lower most) n = min n most
changed (Put new) n = either (n == 0) new n

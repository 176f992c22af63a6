-- The law of the spellings.
use Rattle.std.specs.Prelude.{◌≡◌, ℕ, List, ◌++◌}
use Rattle.sz_value.specs.Data.{Datum}
use Rattle.sz_flat.specs.Spelling.{spelling, HasSpelling}

-- where two spellings stand in front of further bytes and all bytes are alike, the values are the same, and so is
-- what follows
abbrev pub IsOneSpelling : Type 0
IsOneSpelling =
    (d e : Datum) (after later : List ℕ) → HasSpelling d → HasSpelling e → spelling d ++ after ≡ spelling e ++ later
    → (d ≡ e) × (after ≡ later)

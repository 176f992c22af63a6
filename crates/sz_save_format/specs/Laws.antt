-- The law of the format.
use Rattle.std.specs.Prelude.{◌≡◌, ℕ, List}
use Rattle.sz_save_format.specs.Saved.{SavedState, Saves}

-- no bytes are those of two saved states
abbrev pub IsOneSpelling : Type 0
IsOneSpelling = (bytes : List ℕ) (first second : SavedState) → Saves bytes first → Saves bytes second → first ≡ second

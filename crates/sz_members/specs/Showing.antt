-- Which values the rows of a set and of a collection show.
use Rattle.std.specs.Prelude.{ℕ, List, [], ◌∷◌, ◌++◌, replicate}
use Rattle.std.specs.Borrow.{Bor}
use Rattle.sz_types.specs.declared.table.TableKind.{TableKind}
use Rattle.sz_types.specs.declared.table.TableKind.TheVariants.{Set}
use Rattle.sz_value.specs.Data.{Datum}
use Rattle.sz_value.specs.Seen.{seen}
use Rattle.sz_value.specs.declared.value.Value.{Value}

-- how often a value is shown that came so many times
abbrev pub times_shown : TableKind → ℕ → ℕ
times_shown Set repeats = 1
times_shown _ repeats = repeats

-- the values that are shown: those of a set once, and all others as often as they came
abbrev pub shown_of : TableKind → List (Datum × ℕ) → List Datum
shown_of kind [] = []
shown_of kind (p ∷ ps) = replicate (times_shown kind p.1) p.0 ++ shown_of kind ps

-- the plain data of a value that is lent
abbrev pub seen_ref : Bor Value → Datum
seen_ref value = seen value.now

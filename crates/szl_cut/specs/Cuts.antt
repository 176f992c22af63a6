-- Where a file of messages is cut.
use Rattle.std.specs.Prelude.{◌≡◌, ℕ, ◌/◌, List, [], ◌∷◌, length, nat_lt, if◌then◌else◌}
use Rattle.sz_types.specs.declared.frame.Frame.TheVariants.{Delimited}
use Rattle.sz_records.specs.declared.ending.Ending.{Ending}
use Rattle.sz_records.specs.declared.ending.Ending.TheVariants.{Whole}
use Rattle.sz_records.specs.Cutting.{full, IsCut, ends_in}

-- Where the file is cut, of messages that end at these places: in front of each that is the first to begin at a
-- multiple of the size, or past it.
-- The first of them begins at `start`, and the one before it at `before`
abbrev pub cuts : ℕ → ℕ → ℕ → List ℕ → List ℕ
cuts size before start [] = []
cuts size before start (end ∷ ends) =
    if nat_lt (before / size) (start / size) then start ∷ cuts size start end ends else cuts size start end ends

-- where a file of so many messages is cut
abbrev pub file_cuts : ℕ → List ℕ → ℕ → List ℕ
file_cuts size file count = cuts size 0 0 (ends_in 0 0 Delimited full file 0 count)

-- the file is whole, and is cut so
pub record IsCutAt (size : ℕ) (file places : List ℕ) : Type 0 where
  pub messages : List (List ℕ)
  pub whole : IsCut Delimited full 0 0 file messages Whole
  pub are : places ≡ file_cuts size file (length messages)

-- the messages of the file end so
pub record Ends (file : List ℕ) (ending : Ending) : Type 0 where
  pub messages : List (List ℕ)
  pub cut : IsCut Delimited full 0 0 file messages ending
